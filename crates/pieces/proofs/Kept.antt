-- What one symbol leaves: refused, nothing written and the receiver as it was; taken, a receiver that is sound again.
--   either           what holds of both of two outcomes holds of the one that a test picks
--   symbol-refused   a refused symbol leaves all as it was
--   symbol-sound     a receiver stays sound
--   symbol-accord    and keeps its accord
use mathlib.Core.Path.{◌≡◌, refl, sym, ap, subst, ◌∙◌}
use mathlib.Core.Bool.{Bool, true, false, cond}
use mathlib.Core.List.{List, []}
use Prim.Native.Nat.{ℕ, ◌<◌, ◌≤◌}
use native.Mathlib.Omega.{arith}
use borrow.Author.Tests.{ltb-false, lt-ltb, le-ltb}
use lib.Dec.{T, ltb}
use lib.ListN.{length}
use Rattle.std.specs.Prelude.{Err}
use Rattle.trellis.specs.Measure.{Two}
use Rattle.nearest.specs.declared.Received.{Received}
use Rattle.nearest.specs.Line.{BothInRange}
use Rattle.machine.specs.declared.Core.{Core}
use Rattle.machine.specs.declared.Receiver.{Receiver}
use Rattle.one_symbol.specs.declared.Took.{Took}
use Rattle.reasons.specs.declared.Why.TheVariants.{BadSample}
use Rattle.machine.specs.Machine.{Outcome, taking, agreed_of, kept_of, grown, sound}
use Rattle.machine.specs.Parts.{whole}
use Rattle.one_symbol.specs.Taken.{TookIs}
use Rattle.reasons.specs.Reason.{is_done}
use Rattle.receiver_meaning.specs.Told.{fault_of}
use Rattle.machine.proofs.Sound.{grown-sound}
use Rattle.pieces.specs.Running.{symbol_at}
use Rattle.receiver_meaning.proofs.Telling.{in-range}

-- either of two outcomes
pub either : (P : Outcome → Type 0) (b : Bool) (x y : Outcome) → (b ≡ true → P x) → (b ≡ false → P y) → P (cond b x y)
either P true x y f g = f refl
either P false x y f g = g refl

module _ (rx : Receiver) (y : Two Received) (room : ℕ) where
  abbrev Left : Outcome → Type 0
  Left o = is_done o.why ≡ false → (o.words ≡ []) × (o.receiver ≡ rx)

  pub symbol-refused : Left (symbol_at rx y room)
  unfolding symbol_at taking
  symbol-refused =
      either Left (ltb (fault_of y) 4) _ _ (λ _ d. (refl, refl))
      (λ _. either Left (ltb rx.core.window (kept_of rx y)) _ _ (λ _ d. (refl, refl))
      (λ _. either Left (ltb room (agreed_of rx y)) _ _ (λ _ d. (refl, refl)) (λ _ d. absurd (subst T d tt))))

module _ (rx : Receiver) (f : sound rx ≡ true) (y : Two Received) (room : ℕ) where
  abbrev Fit : Outcome → Type 0
  Fit o = sound o.receiver ≡ true

  pub symbol-sound : Fit (symbol_at rx y room)
  unfolding symbol_at taking
  symbol-sound =
      either Fit (ltb (fault_of y) 4) _ _ (λ _. f)
      (λ _. either Fit (ltb rx.core.window (kept_of rx y)) _ _ (λ _. f)
      (λ c. either Fit (ltb room (agreed_of rx y)) _ _ (λ _. f) (λ _. grown-sound rx y f (ltb-false rx.core.window (kept_of rx y) c))))

-- what both ends agreed on stays
module _ (rx : Receiver) (y : Two Received) (room : ℕ) where
  abbrev Agreed : Outcome → Type 0
  Agreed o = o.receiver.core.accord ≡ rx.core.accord

  pub symbol-accord : Agreed (symbol_at rx y room)
  unfolding symbol_at taking grown
  symbol-accord =
      either Agreed (ltb (fault_of y) 4) _ _ (λ _. refl)
      (λ _. either Agreed (ltb rx.core.window (kept_of rx y)) _ _ (λ _. refl)
      (λ _. either Agreed (ltb room (agreed_of rx y)) _ _ (λ _. refl) (λ _. refl)))

-- ---- one symbol, as the code has it

module _ (core : Core) (sums registers picks before : List ℕ) (y : Two Received) (place : ℕ) (e : place ≡ fault_of y) where
  abbrev here : Outcome
  here = symbol_at (whole core sums registers picks) y (length before)

  pub faulty-took : place < 4 → TookIs here (record { core = core; written = 0; why = Err (BadSample place) }) sums registers picks before before
  unfolding symbol_at
  faulty-took h =
      rw (lt-ltb (fault_of y) 4 (omega arith))
      (record { receiver = refl; why = ap (λ (p : ℕ). Err (BadSample p)) e; written = refl; out = refl })

  pub good-taking : 4 ≤ place → (here ≡ taking (whole core sums registers picks) y (length before)) × BothInRange y
  unfolding symbol_at
  good-taking h =
      let l : ltb (fault_of y) 4 ≡ false = le-ltb (fault_of y) 4 (omega arith) in
      (rw l, in-range y l)

  pub good-took : (z : Two Received) → z ≡ y → 4 ≤ place → (r : Took) (sums₁ registers₁ picks₁ after : List ℕ) →
      TookIs (taking (whole core sums registers picks) z (length before)) r sums₁ registers₁ picks₁ before after → TookIs here r sums₁ registers₁ picks₁ before after
  good-took z k h r sums₁ registers₁ picks₁ after is =
      subst (λ (o : Outcome). TookIs o r sums₁ registers₁ picks₁ before after) (ap (λ (x : Two Received). taking (whole core sums registers picks) x (length before)) k ∙ sym (good-taking h).0) is
