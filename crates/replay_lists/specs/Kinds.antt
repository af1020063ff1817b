-- Calls by their kind.
use Rattle.std.specs.Prelude.{ℕ, if◌then◌else◌, ◌==◌}

-- the answer to kind 0, or to kind 1
abbrev pub by_kind2 : {A : Type 0} → ℕ → A → A → A
by_kind2 k a b = if k == 0 then a else b

-- the answer to kind 0, 1 or 2
abbrev pub by_kind3 : {A : Type 0} → ℕ → A → A → A → A
by_kind3 k a b c = by_kind2 k a (if k == 1 then b else c)
