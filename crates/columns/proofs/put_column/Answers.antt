-- A class is below 65,536 and there are at most 2,048 rows, so no product is out of range.
-- Assumes nothing.
use native.Mathlib.Omega.{arith}
use Rattle.columns.specs.Columns.{with_column}
use Rattle.columns.proofs.Turns.{product_small}
use Rattle.columns.proofs.put_column.Goals as goal

pub overflow_mul-column : goal.overflow_mul-column
overflow_mul-column c = omega (arith, product_small c.args.dense c.column-class.result (omega arith) (omega arith))

pub overflow_mul-column-2 : goal.overflow_mul-column-2
overflow_mul-column-2 c = omega (arith, product_small c.args.dense c.column-class.result (omega arith) (omega arith))

pub overflow_add-column : goal.overflow_add-column
overflow_add-column c = omega (arith, product_small c.args.dense c.column-class.result (omega arith) (omega arith))

pub returns : goal.returns
unfolding with_column
returns c = rw (c.put2.ensures, c.entry.ensures, c.column-class.ensures.0, c.of.ensures)
