-- `number::signed`: what is read after the minus, or of the whole token, with its sign.
use Rattle.std.proofs.Common.{rules, arith, ◌≡◌, ◌∙◌, ap, ℕ, ℤ, pos, neg_ℤ, [], ◌∷◌, w32, Some, None, Option}
use Rattle.std.specs.Prelude.{option_map}
use Rattle.std.proofs.lemmas.Slice.Eq.{strip_prefix_is}
use Rattle.std.proofs.lemmas.Bool.Decides.{Decides-eqb}
use Rattle.text.proofs.Digits.{got-most, minus-whole, plain-whole}
use mir.ValLaws.{to_z-of_z}
use Rattle.text.proofs.number.signed.Goals as goal

-- what a token that turned out to write k makes with its sign
told : (f : ℕ → ℤ) {k o : Option ℕ} {w : Option ℤ} → k ≡ o → option_map f o ≡ w → option_map f k ≡ w
told f e w = ap (option_map f) e ∙ w

pub returns-in_err-decimal-in-Some : goal.returns-in_err-decimal-in-Some
returns-in_err-decimal-in-Some c =
    c.from_residual.ensures
    ∙ told (λ n. neg_ℤ (pos n)) c.in_err-decimal-in-Some.ensures
    (minus-whole c.args.s.now c.in-Some.size.now (strip_prefix_is Decides-eqb c.args.s.now (45 ∷ []) (Some c.in-Some.size) c.in-Some.ensures.cases))

pub minus-requires : goal.minus-requires
minus-requires c = got-most 10 2147483648 _ c.in_ok-decimal-in-Some.ensures

pub returns-in_err-decimal-in-None : goal.returns-in_err-decimal-in-None
returns-in_err-decimal-in-None c =
    c.from_residual-in_err-decimal-in-None.ensures
    ∙ told pos c.in_err-decimal-in-None.ensures
    (plain-whole c.args.s.now (strip_prefix_is Decides-eqb c.args.s.now (45 ∷ []) None c.in-None.ensures.cases))

pub overflow_cast-result : goal.overflow_cast-result
overflow_cast-result c = record { sfits = omega (arith, got-most 10 2147483647 _ c.in_ok-decimal-in-None.ensures) }

pub returns-in_ok-decimal-in-Some : goal.returns-in_ok-decimal-in-Some
returns-in_ok-decimal-in-Some c =
    ap Some (to_z-of_z w32 _ (search rules) ∙ c.minus.ensures)
    ∙ told (λ n. neg_ℤ (pos n)) c.in_ok-decimal-in-Some.ensures
    (minus-whole c.args.s.now c.in-Some.size.now (strip_prefix_is Decides-eqb c.args.s.now (45 ∷ []) (Some c.in-Some.size) c.in-Some.ensures.cases))

pub returns-in_ok-decimal-in-None : goal.returns-in_ok-decimal-in-None
returns-in_ok-decimal-in-None c =
    ap Some (to_z-of_z w32 _ (overflow_cast-result c))
    ∙ told pos c.in_ok-decimal-in-None.ensures
    (plain-whole c.args.s.now (strip_prefix_is Decides-eqb c.args.s.now (45 ∷ []) None c.in-None.ensures.cases))
