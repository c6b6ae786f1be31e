-- A read that failed makes no line.
use Rattle.std.proofs.Common.{◌≡◌, refl, ℕ, List}
use Rattle.std.specs.Prelude.{None}
use Rattle.line_reply.specs.declared.Lab.{Lab}
use Rattle.stream.specs.Stream.{Course, took, passed}

-- a read that failed leaves everything as it was: nothing is answered
pub failed-read : (most : ℕ) (c : Course) (lab : Lab) (chunk : List ℕ) → passed most c (took lab None) chunk (took lab None).to ≡ c
failed-read most c lab chunk = refl
