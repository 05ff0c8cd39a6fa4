-- The rights code of a phrase number, as the tables have it. Assumes nothing: these are definitions.
use Rattle.std.specs.Prelude.{cond, List, ℕ, zero, suc, ◌+◌, eqb}
use Rattle.tables.specs.Reads.{phrase_count_in, phrase_number_in, phrase_rights_in}

-- The code of the phrase that was found at rank j is its own.
abbrev pub code_found : List ℕ → ℕ → ℕ
code_found t j = phrase_rights_in t j

-- Of n phrases from rank j on, the rights code of the first that has a number, 0 where none has it.
unfoldable pub rights_from : List ℕ → ℕ → ℕ → ℕ → ℕ
rights_from t number j zero = 0
rights_from t number j (suc n) =
    let later : ℕ = rights_from t number (j + 1) n in
    cond (eqb (phrase_number_in t j) number) (code_found t j) later

-- Of all phrases of the tables.
unfoldable pub rights_in : List ℕ → ℕ → ℕ
rights_in t number = rights_from t number 0 (phrase_count_in t)
