-- The outcomes of `record_open`, one law each.
--   open-short, open-refused, open_done   8; the opening's own number; and the record
--   open-small                            what is recorded fits its bytes
--   open-space                            how many these are
use mathlib.Core.Path.{◌≡◌, refl, sym, ◌∙◌}
use mathlib.Core.Bool.{Bool, true, false, cond, ◌&&◌}
use mathlib.Core.List.{List, [], ◌∷◌}
use Prim.Native.Nat.{ℕ, ◌<◌, ◌≤◌}
use native.Mathlib.Omega.{arith}
use borrow.Author.Tests.{lt-ltb, le-ltb, eq-eqb, ne_eqb, eqb-true, leb-true}
use lib.Dec.{eqb, leb}
use lib.ListN.{length}
use Rattle.points.specs.declared.Accord.{Accord}
use Rattle.points.proofs.Agreed.{accord-width}
use Rattle.points.specs.Agreed.{is_accord}
use Rattle.reasons.specs.Reason.{given_of}
use Rattle.openings.specs.declared.Opened.{Opened}
use Rattle.openings.specs.declared.Start.TheVariants.{Free, At}
use Rattle.openings.specs.Given.{start_fits, start_at}
use Rattle.openings.specs.Opening.{opening_owed, Opens}
use Rattle.records.specs.Values.{open_entry, bytes_of}
use Rattle.record_write.specs.Front.{space_of, Fronted}
use Rattle.recorder.specs.Recorded.{open_records, opening_recorded}
use Rattle.recorder.specs.Promise.{OpenTaped}

pub open-space : (k : Accord) (window start : ℕ) → space_of (open_records k window start) ≡ 4
unfolding bytes_of
open-space k window start = refl

module _ (k : Accord) (w s : ℕ) (bytes : List ℕ) where
  eight : length bytes < 4 → opening_recorded k w s (length bytes) ≡ 8
  unfolding opening_recorded
  eight h = rw (open-space k w s, lt-ltb (length bytes) 4 h)

  pub open-short : length bytes < 4 → OpenTaped k w s bytes 8 bytes
  unfolding bytes_of
  open-short h = record { number = sym (eight h); bytes-are = rw (eight h) }

  module _ (h : 4 ≤ length bytes) (o : Opened) (is : Opens k w (start_at s) o) (n : ℕ) (number : n ≡ (given_of o.why).number) where
    owed : opening_recorded k w s (length bytes) ≡ n
    unfolding opening_recorded
    owed = rw (open-space k w s, le-ltb (length bytes) 4 h) (sym (number ∙ is.owed))

    pub open-refused : (n ≡ 0 → ⊥) → OpenTaped k w s bytes n bytes
    unfolding bytes_of
    open-refused z = record { number = sym owed; bytes-are = rw (owed, ne_eqb n 0 z) }

    pub open_done : n ≡ 0 → (b : List ℕ) → Fronted (open_entry k w s ∷ []) bytes b → OpenTaped k w s bytes n b
    open_done z b put = record { number = sym owed; bytes-are = rw (owed, eq-eqb n 0 z) put }

    pub open-small : n ≡ 0 → (k.u < 256) × (w < 256) × (s < 256)
    unfolding opening_owed
    open-small z = go (is_accord k) (leb 1 w) (leb w 64) (start_fits (start_at s)) refl refl refl (sym is.owed ∙ sym number ∙ z)
      where
        start_small : start_fits (start_at s) ≡ true → s < 256
        start_small e = pick (eqb s 16) refl e where
          pick : (b : Bool) → eqb s 16 ≡ b → start_fits (cond b Free (At s)) ≡ true → s < 256
          pick true k e = omega (arith, eqb-true s 16 k)
          pick false k e = omega (arith, leb-true s 15 e)

        go : (a b c d : Bool) → is_accord k ≡ a → leb w 64 ≡ c → start_fits (start_at s) ≡ d → ◌≡◌ {A = ℕ} (cond a (cond (b && c) (cond d 0 3) 2) 1) 0 →
            (k.u < 256) × (w < 256) × (s < 256)
        go true true true true p q r e = (omega (arith, accord-width k p), omega (arith, leb-true w 64 q), start_small r)
        go true true true false p q r e = absurd (omega arith)
        go true true false d p q r e = absurd (omega arith)
        go true false c d p q r e = absurd (omega arith)
        go false b c d p q r e = absurd (omega arith)
