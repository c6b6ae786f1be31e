-- Settled: any two results that a door's promise allows are equal. `number`, `is_open` and `closed_sender` promise an equation,
-- which settles them by itself.
--   number-tells          the numbers tell the reasons apart
--   listed, list-given    a result that the promise of a list allows
use mathlib.Core.Path.{◌≡◌, refl, sym, ap, ◌∙◌}
use mathlib.Core.Bool.{cond}
use mathlib.Core.List.{List, [], ◌∷◌}
use Prim.Native.Nat.{ℕ}
use lib.Dec.{eqb}
use lib.IntN.{ℤ}
use lib.ListN.{drop}
use Rattle.std.specs.Prelude.{Result, Ok, Err, ⊤}
use Rattle.points.specs.declared.Accord.{Accord}
use Rattle.sender.specs.declared.Sender.{Sender}
use Rattle.sender.specs.declared.Sent.{Sent}
use Rattle.sender.specs.declared.SentList.{SentList}
use Rattle.sender.specs.declared.Why.{Why}
use Rattle.sender.specs.declared.Why.TheVariants.{BadWidth, BadWord, NoRoom, Closed}
use Rattle.sender.specs.Send.{number_of, Given, sending}
use Rattle.sender.specs.SendList.{sending_all, sending_list}
use Rattle.sender.proofs.Exactly.{Outcome, closed, bad-word, no_room, taken, outcome}
use Rattle.sender.proofs.Lists.{onward-by, list-by, list-end}
use Rattle.sender.specs.Promise.{Opens, Sends, SendsList}

abbrev why_of : ℕ → Result ⊤ Why
why_of n = cond (eqb n 0) (Ok tt) (cond (eqb n 1) (Err BadWidth) (cond (eqb n 4) (Err BadWord) (cond (eqb n 8) (Err NoRoom) (Err Closed))))

why-back : (w : Result ⊤ Why) → why_of (number_of w) ≡ w
why-back (Ok x) = refl
why-back (Err BadWidth) = refl
why-back (Err BadWord) = refl
why-back (Err NoRoom) = refl
why-back (Err Closed) = refl

pub number-tells : (v w : Result ⊤ Why) → number_of v ≡ number_of w → v ≡ w
number-tells v w e = sym (why-back v) ∙ ap why_of e ∙ why-back w

same_sent : (q r : Sent) → q.sender ≡ r.sender → number_of q.why ≡ number_of r.why → q ≡ r
same_sent q r e f = let w = number-tells q.why r.why f in λ i. record { sender = e i; why = w i }

pub opening-settled : (k : Accord) (q r : Sent) → Opens k q → Opens k r → q ≡ r
opening-settled k q r a b = same_sent q r (a.sender ∙ sym b.sender) (a.number ∙ sym b.number)

pub sending-settled : (s : Sender) (n : ℕ) (out : List ℤ) (q r : Sent) (o p : List ℤ) → Sends s n out q o → Sends s n out r p → (q ≡ r) × (o ≡ p)
sending-settled s n out q r o p a b =
    (same_sent q r (a.sender ∙ sym b.sender) (a.number ∙ sym b.number), a.output ∙ sym b.output)

pub list-settled : (s : Sender) (ns : List ℕ) (out : List ℤ) (q r : SentList) (o p : List ℤ) → SendsList s ns out q o → SendsList s ns out r p → (q ≡ r) × (o ≡ p)
list-settled s ns out q r o p a b =
    let w = number-tells q.why r.why (a.number ∙ sym b.number) in
    (λ i. record { sender = (a.sender ∙ sym b.sender) i; sent = (a.sent ∙ sym b.sent) i; why = w i }, a.output ∙ sym b.output)

-- ---- there is such a result

Named : ℕ → Type 0
Named n = number_of (why_of n) ≡ n

named-word : (s : Sender) (n : ℕ) (out : List ℤ) → Named (sending s n out).number
unfolding Named
named-word s n out = go (sending s n out) (outcome s n out)
  where
    go : (g : Given) → Outcome s n out g → number_of (why_of g.number) ≡ g.number
    go g (closed e) = refl
    go g (bad-word e f) = refl
    go g (no_room e f l) = refl
    go g (taken e f l) = refl

named-all : (s : Sender) (ns : List ℕ) (out : List ℤ) → Named (sending_all s ns out).number
unfolding sending_all Named
named-all s [] out = refl
named-all s (n ∷ ns) out =
    let g = sending s n out in
    onward-by (λ r. Named r.number) g (sending_all g.sender ns (drop 4 g.output)) (λ _. named-all g.sender ns (drop 4 g.output)) (λ _. named-word s n out)

abbrev pub listed : Sender → List ℕ → List ℤ → SentList
listed s ns out = let g = sending_list s ns out in record { sender = g.sender; sent = g.sent; why = why_of g.number }

pub list-given : (s : Sender) (ns : List ℕ) (out : List ℤ) → SendsList s ns out (listed s ns out) (sending_list s ns out).output
unfolding Named
list-given s ns out =
    record { number = list-by (λ g. Named g.number) s ns out (named-all s ns out) refl; sent = refl; sender = refl; output = refl; again = list-end s ns out }
