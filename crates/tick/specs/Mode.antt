-- What is known of a command's mode number (docs/RULES.md, 'Commands and modes'): 0 off, 1 brake, 2 position, 3 line.
use Rattle.std.specs.Prelude.{ℕ, Bool, if◌then◌else◌, nat_lt, ◌==◌, Option, Some, None}

abbrev pub is_mode : ℕ → Bool
is_mode mode = nat_lt mode 4

-- how many command words a mode uses, from the first on
abbrev pub words_used : ℕ → Option ℕ
words_used mode =
    if nat_lt mode 2 then Some 0
    else (if mode == 2 then Some 7
    else (if mode == 3 then Some 13 else None))
