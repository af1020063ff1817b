-- What a reader has lost where a read failed, and what a writer has got where a write failed.
use Rattle.std.specs.Prelude.{ℕ, ◌≤◌, ◌<◌, List, length, take, Option}
use Rattle.std.specs.Io.KnownBytes.{Appends, Consumes}

-- the bytes that the reader lost stand at the start of the buffer
abbrev pub ConsumesSome : Option (List ℕ) → Option (List ℕ) → List ℕ → Type 0
ConsumesSome old new buf = (n : ℕ) × (n ≤ length buf) × Consumes old new (take n buf)

-- a beginning of the bytes was written, and not all of them
abbrev pub AppendsNotAll : Option (List ℕ) → Option (List ℕ) → List ℕ → Type 0
AppendsNotAll old new bytes = (n : ℕ) × (n < length bytes) × Appends old new (take n bytes)
