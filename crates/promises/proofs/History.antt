-- A receiver runs for years (02, Wish 6): whatever the number of symbols, calls can tell a receiver so many, and it takes another.
--   single, handed  a symbol as a piece of its own, and that a caller can hand it over
--   fine_end        every history that can be told is told by an opening and calls: its receiver is an end
--   TakesMore rx    some good symbol is taken by it, where the output has 64 places
--   no_last         there is no n after which good symbols are refused for their count: some end has been told n, and takes one more
use mathlib.Core.Path.{◌≡◌, refl, ap, subst, ◌∙◌}
use mathlib.Core.Bool.{true}
use mathlib.Core.List.{List, [], ◌∷◌}
use Prim.Native.Nat.{ℕ, ◌+◌, ◌*◌, ◌≤◌}
use native.Mathlib.Omega.{arith}
use lib.IntN.{pos}
use lib.ListN.{length, replicate, length-replicate}
use Rattle.lists.specs.UpTo.{all_up_to}
use Rattle.points.specs.declared.Accord.{Accord}
use Rattle.calls.specs.Calls.{walk}
use Rattle.trellis.specs.Measure.{Two}
use Rattle.distance.specs.declared.Spot.{Spot}
use Rattle.nearest.specs.declared.Received.{Received}
use Rattle.nearest.specs.declared.Received.TheVariants.{Heard, Missing}
use Rattle.nearest.specs.Line.{BothInRange}
use Rattle.reasons.specs.Reason.{reason, given_of}
use Rattle.points.specs.Agreed.{of_width}
use Rattle.receiver_meaning.specs.Told.{Told, pending_after, judge_symbol, Fine, FineList, with_heard}
use Rattle.receiver_meaning.specs.Piece.{Piece, marked_piece}
use Rattle.receiver_meaning.specs.Owed.{piece_owed}
use Rattle.receiver_meaning.proofs.Cases.{piece-goes}
use Rattle.receiver.proofs.Laws.{fresh-most}
use Rattle.openings.specs.declared.Start.{Start}
use Rattle.openings.specs.declared.Start.TheVariants.{Free}
use Rattle.openings.specs.Given.{start_of}
use Rattle.openings.specs.Opening.{Receiver, machine_of}
use Rattle.openings.proofs.Openings.{opening-told}
use Rattle.receiver.specs.declared.Answer.{Answer}
use Rattle.receiver.specs.Promise.{Hears}
use Rattle.receiver.proofs.Doors.{hearing-owes}
use Rattle.worked_cases.proofs.Steady.{zeros, zeros-good, told, steady, goes_on}
use Rattle.promises.specs.End.{End, fresh, heard}
use Rattle.promises.proofs.Demand1.{however-many}

-- a symbol as a piece of its own; the mark, and the coordinates, by which a caller hands it over
abbrev pub single : Two Received → Piece
single y = record { fits = true; symbols = y ∷ [] }

abbrev missed : Received → ℕ
missed (Heard s) = 0
missed Missing = 1

abbrev spot_of : Received → Spot
spot_of (Heard s) = s
spot_of Missing = record { x = pos 0; y = pos 0 }

pub handed : (y : Two Received) →
    let a = spot_of y.first in
    let b = spot_of y.second in marked_piece ((missed y.first + 2 * missed y.second) ∷ []) (a.x ∷ a.y ∷ b.x ∷ b.y ∷ []) ≡ single y
unfolding all_up_to
handed y = go y.first y.second
  where
    go : (g h : Received) →
        let a = spot_of g in
        let b = spot_of h in marked_piece ((missed g + 2 * missed h) ∷ []) (a.x ∷ a.y ∷ b.x ∷ b.y ∷ []) ≡ single (record { first = g; second = h })
    go (Heard s) (Heard t) = refl
    go (Heard s) Missing = refl
    go Missing (Heard t) = refl
    go Missing Missing = refl

pub record TakesMore (rx : Receiver) : Type 0 where
  pub symbol : Two Received
  pub good : BothInRange symbol
  pub is-taken : (out : List ℕ) (r : Answer) (o : List ℕ) → 64 ≤ length out → Hears rx (single symbol) out r o → (given_of r.why ≡ reason 0) × (r.taken ≡ 1)

fine-same : (t : Told) (zs ys : List (Two Received)) → FineList (with_heard t zs) ys → FineList t ys
fine-same t zs [] f = tt
fine-same t zs (y ∷ ys) f = (f.0, f.1, fine-same t zs ys f.2)

-- one symbol that is not one to refuse, as a piece with room for 64 words
heard-one : (t : Told) (f : Fine t) (y : Two Received) → BothInRange y → pending_after t (y ∷ t.heard) ≤ t.window →
    (piece_owed t (single y) 64).told ≡ with_heard t (y ∷ t.heard)
unfolding walk
heard-one t f y r h = rw (piece-goes t (single y) 64 refl, however-many t t.heard y 64 r h (fresh-most t f y))

module _ (ac : Accord) (w : ℕ) (b : Start) where
  abbrev after : List (Two Received) → Told
  after ys = record { accord = ac; window = w; start = start_of b; heard = ys }

  pub fine_end : (ys : List (Two Received)) → Fine (after ys) → End (machine_of (after ys))
  fine_end [] f = subst End (opening-told ac w b f) (fresh ac w b)
  fine_end (y ∷ ys) f =
      let g : Fine (after ys) =
      record {
        agreed = f.agreed;
        some-window = f.some-window;
        small-window = f.small-window;
        good_start = f.good_start;
        each = fine-same (after ys) (y ∷ ys) ys f.each.2;
      } in
      subst End ((hearing-owes (after ys) g (single y) 64).receiver ∙ ap machine_of (heard-one (after ys) g y f.each.0 f.each.1)) (heard (fine_end ys g) (single y) 64)

-- so for each number there is an end that has been told so many, and goes on
module _ (n : ℕ) where
  abbrev ys : List (Two Received)
  ys = replicate n zeros

  taken-as-well : (room : ℕ) → 64 ≤ room → judge_symbol (told n) ys zeros room ≡ reason 0
  taken-as-well room h = however-many (told n) ys zeros room zeros-good (goes_on n) (omega (arith, fresh-most (told n) (steady n) zeros))

  more : TakesMore (machine_of (told n))
  unfolding walk
  more =
      record {
        symbol = zeros;
        good = zeros-good;
        is-taken = λ out r o h p.
            let w = p.owed (told n) (steady n) refl in
            let e = taken-as-well (length out) h in
            (w.given ∙ rw (piece-goes (told n) (single zeros) (length out) refl, e), w.taken ∙ rw (piece-goes (told n) (single zeros) (length out) refl, e));
      }

  pub no_last : (t : Told) × Fine t × (length t.heard ≡ n) × End (machine_of t) × TakesMore (machine_of t)
  no_last = (told n, steady n, length-replicate n zeros, fine_end (of_width 0) 64 Free ys (steady n), more)
