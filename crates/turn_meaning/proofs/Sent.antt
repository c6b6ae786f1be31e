-- The sender's points under a quarter turn: turned symbols have the turned points, and go on from the turned state.
--   first-at, second_at_lem   the points of a turned symbol
--   allowed-from          turned symbols are allowed from the turned state
--   start-turned          the state after one turn more
use mathlib.Core.Path.{◌≡◌, sym, ap, subst, ◌∙◌}
use mathlib.Core.Bool.{true}
use mathlib.Core.List.{List, [], ◌∷◌, map}
use Prim.Native.Nat.{ℕ, suc, ◌+◌, ◌%◌, ◌<◌}
use native.Mathlib.Omega.{arith}
use Rattle.wei.specs.State.{state_of, next_state}
use Rattle.wei.specs.Symbol.{Symbol, first_label, last_label, Valid, Carries, AllowedFrom}
use Rattle.wei.proofs.Finite.{equal1}
use Rattle.wei.proofs.Labels.{second_below}
use Rattle.wei.proofs.States.{next-below}
use Rattle.points.specs.declared.Accord.{Accord}
use Rattle.points.specs.Agreed.{is_accord}
use Rattle.points.specs.Turn.{turned}
use Rattle.maps.specs.PointMap.{number_on, point_at, first_at, second_at}
use Rattle.maps.proofs.Both.{is-map}
use Rattle.turn_meaning.specs.Turned.{start_turned}
use Rattle.turn_meaning.proofs.Wei.{state_turned, symbol_turned, label-below, first-turned, last-turned, carries-turned}

flips : (m : ℕ) → m < 2 → state_turned (state_of m 0 m 0) ≡ state_of ((m + 1) % 2) 0 ((m + 1) % 2) 0
unfolding state_turned
flips = equal1 2 (λ m. state_turned (state_of m 0 m 0)) (λ m. state_of ((m + 1) % 2) 0 ((m + 1) % 2) 0) tt

pub start-turned : (k : ℕ) → state_turned (start_turned k) ≡ start_turned (suc k)
start-turned k =
    let e : (k % 2 + 1) % 2 ≡ suc k % 2 = omega arith in
    flips (k % 2) (omega arith) ∙ ap (λ (m : ℕ). state_of m 0 m 0) e

pub start-below : (k : ℕ) → start_turned k < 16
start-below k = omega arith

module _ (ac : Accord) (g : is_accord ac ≡ true) where
  -- a symbol after a quarter turn
  abbrev pub sent_turned : Symbol → Symbol
  sent_turned = symbol_turned (number_on ac.map ac.u)

  pub first-at : (c : Symbol) → Valid ac.u c → first_at ac (sent_turned c) ≡ turned (first_at ac c)
  unfolding first_at symbol_turned
  first-at c v =
      ap (λ (l : ℕ). point_at ac l (number_on ac.map ac.u c.w1)) (first-turned (number_on ac.map ac.u) c)
      ∙ sym ((is-map ac.map).turn ac.u (first_label c) c.w1 g (label-below ac.u c v) v.w1-below)

  pub second_at_lem : (c : Symbol) → Valid ac.u c → second_at ac (sent_turned c) ≡ turned (second_at ac c)
  unfolding second_at symbol_turned last_label
  second_at_lem c v =
      ap (λ (l : ℕ). point_at ac l (number_on ac.map ac.u c.w2)) (last-turned (number_on ac.map ac.u) c)
      ∙ sym ((is-map ac.map).turn ac.u (last_label c) c.w2 g (second_below (first_label c) c.y0 c.i1) v.w2-below)

  pub allowed-from : (s : ℕ) (cs : List Symbol) → s < 16 → AllowedFrom ac.u s cs → AllowedFrom ac.u (state_turned s) (map sent_turned cs)
  allowed-from s [] h a = tt
  allowed-from s (c ∷ cs) h a =
      let n = next_state s c.i1 c.i2 in
      let k = carries-turned (number_on ac.map ac.u) ac.u (λ w b. (is-map ac.map).turn_below ac.u w g b) s n c h a.0 in
      let rest : AllowedFrom ac.u (state_turned n) (map sent_turned cs) = allowed-from n cs (next-below s c.i1 c.i2) a.1 in
      subst (λ (t : ℕ). Carries ac.u (state_turned s) t (sent_turned c) × AllowedFrom ac.u t (map sent_turned cs)) (sym k.leads) (k, rest)
