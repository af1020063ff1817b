-- The product of a matrix and a vector: each entry is a row's dot product with the vector.
use Rattle.std.specs.Prelude.{ℕ, List, map, Float}
use Rattle.linear.specs.declared.matrix.Matrix.{Matrix}
use Rattle.linear.specs.Vector.{dot_of}

unfoldable pub product_of : {R C : ℕ} → Matrix R C → List Float → List Float
product_of m v = map (λ row. dot_of row v) m.rows
