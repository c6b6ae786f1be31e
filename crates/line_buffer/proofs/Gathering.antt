-- Laws of the line so far: what some bytes more make of it.
use Prim.Native.Nat.{ℕ, ◌-◌, ◌≤◌, ◌<◌}
use mathlib.Core.Path.{◌≡◌, refl, sym, ap, ◌∙◌}
use mathlib.Core.Bool.{Bool, true, false}
use mathlib.Core.List.{List, [], ◌++◌}
use native.Mathlib.Omega.{arith}
use lib.ListN.{length, take, drop, length-append, length-take}
use lib.Seq.{take_at, length-take-le}
use Rattle.page.specs.Page.{Puts}
use Rattle.line_buffer.specs.declared.Part.{Part}
use Rattle.line_buffer.specs.Part.{Gathered}

-- a Boolean is not both
pub clash : {A : Type 0} (b : Bool) → b ≡ true → b ≡ false → A
clash b e f = let z : ◌≡◌ {A = ℕ} 0 1 = cc in absurd (omega arith)

pub none-gathered : (line : List ℕ) → Gathered line (record { held = 0; long = false }) []
none-gathered line = record { too_long = λ e. clash false e refl; kept = λ e. refl }

module _ {line : List ℕ} {part : Part} {s : List ℕ} (bytes : List ℕ) (g : Gathered line part s) where
  pub stays-long : part.long ≡ true → Gathered line part (s ++ bytes)
  stays-long e =
      record {
        too_long = λ _. omega (arith, g.too_long e, length-append s bytes);
        kept = λ f. clash part.long e f;
      }

  module _ (short : part.long ≡ false) (within : part.held ≤ length line) where
    pub grows-long : length line - part.held < length bytes → Gathered line (record { held = 0; long = true }) (s ++ bytes)
    grows-long h =
        let all : length s ≡ part.held = ap length (sym (g.kept short)) ∙ length-take-le part.held line within in
        record {
          too_long = λ _. omega (arith, length-append s bytes);
          kept = λ f. clash true refl f;
        }

    pub grows : {r : ℕ} {line' : List ℕ} → Puts line part.held bytes r line' → Gathered line' (record { held = r; long = false }) (s ++ bytes)
    grows {r} {line'} p =
        let head : length (take part.held line ++ bytes) ≡ r = simp (length-append, length-take) (omega (arith, p.next)) in
        record {
          too_long = λ e. clash false e refl;
          kept = λ _. rw (p.said, take_at (take part.held line ++ bytes) (drop r line) r head, g.kept short);
        }
