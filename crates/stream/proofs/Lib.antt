mod Left
mod Ends
