-- A list is its words sent singly: a list of one word is that word sent, and a list cut in two and sent in two calls, the second into the
-- rest of the output, is the list sent in one, refusals included. And where the loop of `send_list` stands after some words.
--   one_word, one-sent       a list of one word
--   cut-done, cut-refused    a list cut in two: the first part was sent whole, or refused somewhere
--   cut                      the same of the definition
--   list-end, list-sound     the sender after a list is an end again, and open where it was open
--   list-kept, list-fits     where no word was sent the sender is as it was; what is written has room
--   list-alike               what the output held before makes no difference to what is sent
--   Going, start, go_on, stop, end   the loop
--   went-as, went-is         the sender as the numbers that the loop has of it
use mathlib.Core.Path.{◌≡◌, refl, sym, ap, ap₂, subst, ◌∙◌}
use mathlib.Core.Bool.{Bool, true, false, cond, ◌&&◌}
use mathlib.Core.List.{List, [], ◌∷◌, ◌++◌, append_assoc, append-nil}
use Prim.Native.Nat.{ℕ, ◌+◌, ◌-◌, ◌*◌, ◌≤◌, ◌<◌}
use native.Mathlib.Nat.{add-zero, zero-add}
use native.Mathlib.Numerals.{add-one}
use native.Mathlib.Omega.{arith}
use borrow.Author.Tests.{eq-eqb, ne_eqb, eqb-true, eqb-false}
use lib.Dec.{eqb, leb}
use lib.IntN.{ℤ}
use lib.ListN.{get_or, length, take, drop, length-append, length-drop, take-append-drop, drop_of_length-le}
use lib.Seq.{length-take-le, take_all, take-append-add, drop-append-add, drop-cons}
use Rattle.std.specs.Prelude.{Result, Ok, Err, ⊤}
use Rattle.points.specs.declared.Accord.{Accord}
use Rattle.sender.specs.declared.Sender.{Sender}
use Rattle.sender.specs.declared.Sent.{Sent}
use Rattle.sender.specs.declared.SentList.{SentList}
use Rattle.sender.specs.declared.Why.{Why}
use Rattle.sender.specs.declared.Why.TheVariants.{Closed}
use Rattle.wei.specs.Word.{is_word}
use Rattle.sender.specs.Send.{number_of, sound, after, four, symbol_for, Given, sending, End, called}
use Rattle.sender.specs.SendList.{GivenList, given_list, onward, sending_all, sending_list}
use Rattle.sender.specs.Promise.{Sends, SendsList}
use Rattle.sender.specs.Loop.{sender_at, list_by}
use Rattle.sender.proofs.Sound.{ranges, after-sound}
use Rattle.sender.proofs.Exactly.{done, nine, refused-keeps}

-- ---- one word

module _ (s : Sender) (n : ℕ) (out : List ℤ) (e : (sending s n out).number ≡ 0) where
  pub sent-room : 4 ≤ length (sending s n out).output
  unfolding four
  sent-room = rw (done s n out e).output (omega arith)

  pub sent-sound : sound (sending s n out).sender ≡ true
  sent-sound = let t = done s n out e in ap sound t.sender ∙ after-sound s n (ranges s t.is_open)

-- what a word gives, by the answers to the three questions asked of it in turn
abbrev given_by : Sender → ℕ → Bool → Bool → Bool → List ℤ → Given
given_by s n a b c out =
    let given : ℕ → Sender → List ℤ → Given = λ k t o. record { number = k; sender = t; output = o } in
    cond a (cond b (cond c (given 0 (after s n) (four s.accord (symbol_for s n) ++ drop 4 out)) (given 8 s out)) (given 4 s out)) (given 9 s out)

-- the accord stays, whatever is sent
pub sending-accord : (s : Sender) (n : ℕ) (out : List ℤ) → (sending s n out).sender.accord ≡ s.accord
unfolding sending after
sending-accord s n out = go (sound s) (is_word s.accord.u n) (leb 4 (length out))
  where
    go : (a b c : Bool) → (given_by s n a b c out).sender.accord ≡ s.accord
    go true true true = refl
    go true true false = refl
    go true false c = refl
    go false b c = refl

live_of : (b c : Bool) → (b && c) ≡ true → b ≡ true
live_of true c e = refl
live_of false c e = e

-- an open sender is what its numbers say
pub at-is : (s : Sender) (k : Accord) → sound s ≡ true → s.accord ≡ k → s ≡ sender_at k s.turn s.state
at-is s k e f = let l = live_of s.live _ e in λ i. record { live = l i; accord = f i; turn = s.turn; state = s.state }

closed-word : (s : Sender) (n : ℕ) (out : List ℤ) → sound s ≡ false → given_list 9 s 0 out ≡ given_list (sending s n out).number (sending s n out).sender 0 (sending s n out).output
unfolding sending
closed-word s n out e = rw e

pub one_word : (s : Sender) (n : ℕ) (out : List ℤ) → let g = sending s n out in
    sending_list s (n ∷ []) out ≡ given_list g.number g.sender (cond (eqb g.number 0) 1 0) g.output
unfolding sending_list sending_all
one_word s n out = go (sound s) (eqb (sending s n out).number 0) refl refl
  where
    go : (a b : Bool) → sound s ≡ a → let g = sending s n out in
        eqb g.number 0 ≡ b →
        cond a (cond b (given_list 0 g.sender (0 + 1) (take 4 g.output ++ drop 4 g.output)) (given_list g.number g.sender 0 g.output)) (given_list 9 s 0 out)
        ≡ given_list g.number g.sender (cond b 1 0) g.output
    go true true e f = rw (eqb-true (sending s n out).number 0 f, take-append-drop 4 (sending s n out).output)
    go true false e f = refl
    go false true e f = absurd (omega (arith, (nine s n out).1 e, eqb-true (sending s n out).number 0 f))
    go false false e f = closed-word s n out e

-- ---- the two ways of a word in a list, and of a list

pub onward-by : (P : GivenList → Type 0) (g : Given) (rest : GivenList) →
    (g.number ≡ 0 → P (given_list rest.number rest.sender (rest.sent + 1) (take 4 g.output ++ rest.output))) →
    ((g.number ≡ 0 → ⊥) → P (given_list g.number g.sender 0 g.output)) → P (onward g rest)
onward-by P g rest f h = go (eqb g.number 0) refl
  where
    go : (b : Bool) → eqb g.number 0 ≡ b →
        P (cond b (given_list rest.number rest.sender (rest.sent + 1) (take 4 g.output ++ rest.output)) (given_list g.number g.sender 0 g.output))
    go true e = f (eqb-true g.number 0 e)
    go false e = h (eqb-false g.number 0 e)

pub list-by : (P : GivenList → Type 0) (s : Sender) (ns : List ℕ) (out : List ℤ) → P (sending_all s ns out) → P (given_list 9 s 0 out) → P (sending_list s ns out)
unfolding sending_list
list-by P s ns out p q = go (sound s)
  where
    go : (b : Bool) → P (cond b (sending_all s ns out) (given_list 9 s 0 out))
    go true = p
    go false = q

-- ---- a list cut in two

-- k words were sent and wrote `front`, and the words after them give `rest`
abbrev pub gone : ℕ → List ℤ → GivenList → GivenList
gone k front rest = given_list rest.number rest.sender (k + rest.sent) (front ++ rest.output)

-- the first part gave g, the second goes into the rest of the output
abbrev pub joined : GivenList → List ℕ → GivenList
joined g ns = cond (eqb g.number 0) (gone g.sent (take (4 * g.sent) g.output) (sending_all g.sender ns (drop (4 * g.sent) g.output))) g

-- a word taken before the first part
first_more : (g : Given) → g.number ≡ 0 → 4 ≤ length g.output → (r : GivenList) (ns : List ℕ) → onward g (joined r ns) ≡ joined (onward g r) ns
first_more g e l r ns = rw (eq-eqb g.number 0 e) (go (eqb r.number 0))
  where
    many : length (take 4 g.output) ≡ 4
    many = length-take-le 4 g.output l

    times : 4 * (r.sent + 1) ≡ length (take 4 g.output) + 4 * r.sent
    times = rw many (omega arith)

    go : (b : Bool) → let j = cond b (gone r.sent (take (4 * r.sent) r.output) (sending_all r.sender ns (drop (4 * r.sent) r.output))) r in
        let o = take 4 g.output ++ r.output in
        given_list j.number j.sender (j.sent + 1) (take 4 g.output ++ j.output)
        ≡ cond b (gone (r.sent + 1) (take (4 * (r.sent + 1)) o) (sending_all r.sender ns (drop (4 * (r.sent + 1)) o))) (given_list r.number r.sender (r.sent + 1) o)
    go true =
        let rest = sending_all r.sender ns (drop (4 * r.sent) r.output) in
        let d : drop (4 * (r.sent + 1)) (take 4 g.output ++ r.output) ≡ drop (4 * r.sent) r.output =
        rw times (drop-append-add (take 4 g.output) r.output (4 * r.sent)) in
        let t : take (4 * (r.sent + 1)) (take 4 g.output ++ r.output) ≡ take 4 g.output ++ take (4 * r.sent) r.output =
        rw times (take-append-add (take 4 g.output) r.output (4 * r.sent)) in
        let c : r.sent + rest.sent + 1 ≡ r.sent + 1 + rest.sent = omega arith in
        rw (d, t) (ap₂ (given_list rest.number rest.sender) c (sym (append_assoc (take 4 g.output) (take (4 * r.sent) r.output) rest.output)))
    go false = refl

-- a word refused before it
first-refused : (g : Given) → (g.number ≡ 0 → ⊥) → (r q : GivenList) (ns : List ℕ) → onward g r ≡ joined (onward g q) ns
first-refused g h r q ns = rw (ne_eqb g.number 0 h) (rw (ne_eqb g.number 0 h))

pub cut : (s : Sender) (ms ns : List ℕ) (out : List ℤ) → sending_all s (ms ++ ns) out ≡ joined (sending_all s ms out) ns
unfolding sending_all
cut s [] ns out = ap (λ (k : ℕ). given_list (sending_all s ns out).number (sending_all s ns out).sender k (sending_all s ns out).output) (sym (zero-add (sending_all s ns out).sent))
cut s (n ∷ ms) ns out =
    go (eqb (sending s n out).number 0) refl (cut (sending s n out).sender ms ns (drop 4 (sending s n out).output))
  where
    go : (b : Bool) → let g = sending s n out in let rest = drop 4 g.output in
        eqb g.number 0 ≡ b → sending_all g.sender (ms ++ ns) rest ≡ joined (sending_all g.sender ms rest) ns →
        onward g (sending_all g.sender (ms ++ ns) rest) ≡ joined (onward g (sending_all g.sender ms rest)) ns
    go true e ih =
        let z = eqb-true (sending s n out).number 0 e in
        ap (onward (sending s n out)) ih ∙ first_more (sending s n out) z (sent-room s n out z) _ ns
    go false e ih = first-refused (sending s n out) (eqb-false (sending s n out).number 0 e) _ _ ns

-- ---- the promise of a list

all_end : (s : Sender) (ns : List ℕ) (out : List ℤ) → End s → End (sending_all s ns out).sender
unfolding sending_all
all_end s [] out z = z
all_end s (n ∷ ns) out z =
    let g = sending s n out in
    onward-by (λ r. End r.sender) g (sending_all g.sender ns (drop 4 g.output)) (λ _. all_end g.sender ns (drop 4 g.output) (called z n out)) (λ _. called z n out)

pub list-end : (s : Sender) (ns : List ℕ) (out : List ℤ) → End s → End (sending_list s ns out).sender
list-end s ns out z = list-by (λ r. End r.sender) s ns out (all_end s ns out z) z

module _ (s : Sender) (ns : List ℕ) (out : List ℤ) where
  -- what the definition says is what the promise says
  sends-as : (t : Sender) (k : ℕ) (why : Result ⊤ Why) (o : List ℤ) → sending_list s ns out ≡ given_list (number_of why) t k o → SendsList s ns out (record { sender = t; sent = k; why = why }) o
  sends-as t k why o e =
      let a = ap (λ (g : GivenList). g.sender) (sym e) in
      record {
        number = ap (λ (g : GivenList). g.number) (sym e);
        sent = ap (λ (g : GivenList). g.sent) (sym e);
        sender = a;
        output = ap (λ (g : GivenList). g.output) (sym e);
        again = λ z. subst End (sym a) (list-end s ns out z);
      }

  pub list_open : sound s ≡ true → sending_list s ns out ≡ sending_all s ns out
  unfolding sending_list
  list_open e = rw e

  pub list-closed : sound s ≡ false → SendsList s ns out (record { sender = s; sent = 0; why = Err Closed }) out
  unfolding sending_list
  list-closed e = sends-as s 0 (Err Closed) out (rw e)

-- ---- where the loop stands

sending-sound : (s : Sender) (n : ℕ) (out : List ℤ) → sound s ≡ true → sound (sending s n out).sender ≡ true
sending-sound s n out e = go (eqb (sending s n out).number 0) refl
  where
    go : (b : Bool) → eqb (sending s n out).number 0 ≡ b → sound (sending s n out).sender ≡ true
    go true z = sent-sound s n out (eqb-true (sending s n out).number 0 z)
    go false z = ap sound (refused-keeps s n out (eqb-false (sending s n out).number 0 z)).0 ∙ e

pub record Going (words : List ℕ) (out₀ : List ℤ) (s₀ : Sender) (out : List ℤ) (s : Sender) (sent : ℕ) : Type 0 where
  pub first : sound s₀ ≡ true
  pub within : sent ≤ length words
  pub room : 4 * sent ≤ length out
  pub long : length out ≡ length out₀
  pub fit : sound s ≡ true
  pub accord : s.accord ≡ s₀.accord
  pub same : sending_all s₀ words out₀ ≡ gone sent (take (4 * sent) out) (sending_all s (drop sent words) (drop (4 * sent) out))

pub start : (words : List ℕ) (out : List ℤ) (s : Sender) → sound s ≡ true → Going words out s out s 0
start words out s e =
    let g = sending_all s words out in
    record {
      first = e;
      within = omega arith;
      room = omega arith;
      long = refl;
      fit = e;
      accord = refl;
      same = ap (λ (k : ℕ). given_list g.number g.sender k g.output) (sym (zero-add g.sent));
    }

pub end : (words : List ℕ) (out₀ : List ℤ) (s₀ : Sender) (out : List ℤ) (s : Sender) (sent : ℕ) → Going words out₀ s₀ out s sent → length words ≤ sent →
    SendsList s₀ words out₀ (record { sender = s; sent = length words; why = Ok tt }) out
unfolding sending_all
end words out₀ s₀ out s sent g past =
    let all : sent ≡ length words = omega (arith, g.within) in
    sends-as s₀ words out₀ s (length words) (Ok tt) out
    (list_open s₀ words out₀ g.first ∙ g.same ∙ ap (λ (l : List ℕ). gone sent (take (4 * sent) out) (sending_all s l (drop (4 * sent) out))) (drop_of_length-le words {i = sent} past)
    ∙ rw (add-zero, take-append-drop (4 * sent) out, all))

-- a turn of the loop: the word at `sent` goes into the rest of the output
module _ (words : List ℕ) (out₀ : List ℤ) (s₀ : Sender) (out : List ℤ) (s : Sender) (sent : ℕ) (g : Going words out₀ s₀ out s sent) (more : sent < length words)
    (r : Sent) (ys : List ℤ) (was : Sends s (get_or words sent 0) (take (length out - 4 * sent) (drop (4 * sent) out)) r ys)
    (kept : length ys ≡ length (take (length out - 4 * sent) (drop (4 * sent) out))) where
  abbrev n : ℕ
  n = get_or words sent 0

  abbrev front : List ℤ
  front = take (4 * sent) out

  abbrev rest : List ℤ
  rest = drop (4 * sent) out

  -- the output once its rest has come back
  abbrev back : List ℤ
  back = front ++ (ys ++ drop (length out - 4 * sent) rest)

  front_long : length front ≡ 4 * sent
  front_long = length-take-le (4 * sent) out g.room

  part : take (length out - 4 * sent) rest ≡ rest
  part = take_all (length out - 4 * sent) rest (rw length-drop (omega arith))

  is : Sends s n rest r ys
  is = subst (λ (l : List ℤ). Sends s n l r ys) part was

  back_is : back ≡ front ++ ys
  back_is = ap (λ (l : List ℤ). front ++ l) (ap (λ (l : List ℤ). ys ++ l) (drop_of_length-le rest {i = length out - 4 * sent} (rw length-drop (omega arith))) ∙ append-nil ys)

  pub back_long : length back ≡ length out₀
  back_long = rw (back_is, length-append front ys, front_long, kept, part, length-drop) (omega (arith, g.room, g.long))

  words_are : drop sent words ≡ n ∷ drop (sent + 1) words
  words_are = drop-cons words sent 0 more ∙ ap (λ (k : ℕ). n ∷ drop k words) (sym (add-one sent))

  once : sending_all s (drop sent words) rest ≡ onward (record { number = number_of r.why; sender = r.sender; output = ys }) (sending_all r.sender (drop (sent + 1) words) (drop 4 ys))
  unfolding sending_all
  once =
      ap (λ (l : List ℕ). sending_all s l rest) words_are
      ∙ (λ i. onward (record { number = sym is.number i; sender = sym is.sender i; output = sym is.output i })
      (sending_all (sym is.sender i) (drop (sent + 1) words) (drop 4 (sym is.output i))))

  pub stop : (number_of r.why ≡ 0 → ⊥) → SendsList s₀ words out₀ (record { sender = r.sender; sent = sent; why = r.why }) back
  stop h =
      let refused : sending_all s (drop sent words) rest ≡ given_list (number_of r.why) r.sender 0 ys = once ∙ rw (ne_eqb (number_of r.why) 0 h) in
      sends-as s₀ words out₀ r.sender sent r.why back
      (list_open s₀ words out₀ g.first ∙ g.same ∙ ap (gone sent front) refused ∙ ap₂ (given_list (number_of r.why) r.sender) (add-zero sent) (sym back_is))

  -- the sender that the loop stops with is open and of the same accord
  pub stop-open : sound r.sender ≡ true
  stop-open = ap sound is.sender ∙ sending-sound s n rest g.fit

  pub stop-accord : r.sender.accord ≡ s₀.accord
  stop-accord = ap (λ (x : Sender). x.accord) is.sender ∙ sending-accord s n rest ∙ g.accord

  module _ (z : number_of r.why ≡ 0) where
    taken : (sending s n rest).number ≡ 0
    taken = sym is.number ∙ z

    four-more : 4 ≤ length ys
    four-more = subst (λ (l : List ℤ). 4 ≤ length l) (sym is.output) (sent-room s n rest taken)

    times : 4 * (sent + 1) ≡ length front + 4
    times = rw front_long (omega arith)

    front-more : take (4 * (sent + 1)) back ≡ front ++ take 4 ys
    front-more = rw (back_is, times) (take-append-add front ys 4)

    rest_more : drop (4 * (sent + 1)) back ≡ drop 4 ys
    rest_more = rw (back_is, times) (drop-append-add front ys 4)

    pub go_on : Going words out₀ s₀ back r.sender (sent + 1)
    go_on =
        let l : length back ≡ 4 * sent + length ys = rw (back_is, length-append front ys, front_long) in
        let later = sending_all r.sender (drop (sent + 1) words) (drop 4 ys) in
        let k : sent + (later.sent + 1) ≡ sent + 1 + later.sent = omega arith in
        record {
          first = g.first;
          within = omega arith;
          room = omega (arith, l, four-more);
          long = back_long;
          fit = ap sound is.sender ∙ sent-sound s n rest taken;
          accord = ap (λ (x : Sender). x.accord) is.sender ∙ sending-accord s n rest ∙ g.accord;
          same =
              g.same ∙ ap (gone sent front) (once ∙ rw (eq-eqb (number_of r.why) 0 z))
              ∙ ap₂ (given_list later.number later.sender) k (sym (append_assoc front (take 4 ys) later.output))
              ∙ rw (front-more, rest_more);
        }

-- ---- an open sender

all_sound : (s : Sender) (ns : List ℕ) (out : List ℤ) → sound s ≡ true → sound (sending_all s ns out).sender ≡ true
unfolding sending_all
all_sound s [] out e = e
all_sound s (n ∷ ns) out e =
    let g = sending s n out in
    let f = sending-sound s n out e in
    onward-by (λ r. sound r.sender ≡ true) g (sending_all g.sender ns (drop 4 g.output)) (λ _. all_sound g.sender ns (drop 4 g.output) f) (λ _. f)

module _ (s : Sender) (ns : List ℕ) (out : List ℤ) where
  -- an open sender stays open
  pub list-sound : sound s ≡ true → sound (sending_list s ns out).sender ≡ true
  list-sound e = rw (list_open s ns out e) (all_sound s ns out e)

  -- a closed one sends nothing
  pub list-nine : sound s ≡ false → sending_list s ns out ≡ given_list 9 s 0 out
  unfolding sending_list
  list-nine e = rw e

  -- so one that sent a word, or all of them, was open
  was-open : (sound s ≡ false → ⊥) → sound s ≡ true
  was-open = go (sound s)
    where
      go : (b : Bool) → (b ≡ false → ⊥) → b ≡ true
      go true h = refl
      go false h = absurd (h refl)

  pub done-open : (sending_list s ns out).number ≡ 0 → sound s ≡ true
  done-open z = was-open (λ e. omega (arith, ap (λ (g : GivenList). g.number) (list-nine e)))

  pub some-open : ((sending_list s ns out).sent ≡ 0 → ⊥) → sound s ≡ true
  some-open h = was-open (λ e. h (ap (λ (g : GivenList). g.sent) (list-nine e)))

-- ---- what a list leaves

all-kept : (s : Sender) (ns : List ℕ) (out : List ℤ) → (sending_all s ns out).sent ≡ 0 → (sending_all s ns out).sender ≡ s
unfolding sending_all
all-kept s [] out = λ z. refl
all-kept s (n ∷ ns) out =
    let g = sending s n out in
    onward-by (λ r. r.sent ≡ 0 → r.sender ≡ s) g (sending_all g.sender ns (drop 4 g.output)) (λ _ z. absurd (omega arith)) (λ h _. (refused-keeps s n out h).0)

sending-length : (s : Sender) (n : ℕ) (out : List ℤ) → length (sending s n out).output ≡ length out
unfolding four
sending-length s n out = go (eqb (sending s n out).number 0) refl
  where
    go : (b : Bool) → eqb (sending s n out).number 0 ≡ b → length (sending s n out).output ≡ length out
    go true e = let t = done s n out (eqb-true (sending s n out).number 0 e) in rw (t.output, length-append (four s.accord (symbol_for s n)), length-drop) (omega (arith, t.room))
    go false e = ap length (refused-keeps s n out (eqb-false (sending s n out).number 0 e)).1

all-fits : (s : Sender) (ns : List ℕ) (out : List ℤ) → 4 * (sending_all s ns out).sent ≤ length out
unfolding sending_all
all-fits s [] out = omega arith
all-fits s (n ∷ ns) out =
    let g = sending s n out in
    let h = all-fits g.sender ns (drop 4 g.output) in
    onward-by (λ r. 4 * r.sent ≤ length out) g (sending_all g.sender ns (drop 4 g.output))
    (λ z. omega (arith, h, length-drop 4 g.output, sending-length s n out, sent-room s n out z)) (λ _. omega arith)

module _ (s : Sender) (ns : List ℕ) (out : List ℤ) where
  -- where no word was sent the sender is as it was
  pub list-kept : (sending_list s ns out).sent ≡ 0 → (sending_list s ns out).sender ≡ s
  list-kept = list-by (λ g. g.sent ≡ 0 → g.sender ≡ s) s ns out (all-kept s ns out) (λ _. refl)

  -- there was room for what was written
  pub list-fits : 4 * (sending_list s ns out).sent ≤ length out
  list-fits = list-by (λ g. 4 * g.sent ≤ length out) s ns out (all-fits s ns out) (omega arith)

-- ---- what the output held before makes no difference

-- one word, and k after it: their coordinates
pub wrote : (first rest : List ℤ) (k : ℕ) → 4 ≤ length first → take (4 * (k + 1)) (take 4 first ++ rest) ≡ take 4 first ++ take (4 * k) rest
wrote first rest k h =
    let l : 4 * (k + 1) ≡ length (take 4 first) + 4 * k = rw (length-take-le 4 first h) (omega arith) in
    ap (λ (m : ℕ). take m (take 4 first ++ rest)) l ∙ take-append-add (take 4 first) rest (4 * k)

record AlikeWord (g h : Given) : Type 0 where
  number : g.number ≡ h.number
  sender : g.sender ≡ h.sender
  written : g.number ≡ 0 → take 4 g.output ≡ take 4 h.output

alike-word : (s : Sender) (n : ℕ) (out out' : List ℤ) → length out ≡ length out' → AlikeWord (sending s n out) (sending s n out')
unfolding sending four
alike-word s n out out' e = rw (← e) (by (sound s) (is_word s.accord.u n) (leb 4 (length out)))
  where
    by : (a b c : Bool) → AlikeWord (given_by s n a b c out) (given_by s n a b c out')
    by true true true = record { number = refl; sender = refl; written = λ _. refl }
    by true true false = record { number = refl; sender = refl; written = λ z. absurd (omega arith) }
    by true false c = record { number = refl; sender = refl; written = λ z. absurd (omega arith) }
    by false b c = record { number = refl; sender = refl; written = λ z. absurd (omega arith) }

pub record Alike (g h : GivenList) : Type 0 where
  pub number : g.number ≡ h.number
  pub sender : g.sender ≡ h.sender
  pub sent : g.sent ≡ h.sent
  pub written : take (4 * g.sent) g.output ≡ take (4 * h.sent) h.output

onward-alike : (g h : Given) (q r : GivenList) → AlikeWord g h → (g.number ≡ 0 → 4 ≤ length g.output) → (h.number ≡ 0 → 4 ≤ length h.output) → Alike q r → Alike (onward g q) (onward h r)
onward-alike g h q r w l m a = rw (← w.number) (go (eqb g.number 0) refl)
  where
    go : (b : Bool) → eqb g.number 0 ≡ b → Alike (cond b (given_list q.number q.sender (q.sent + 1) (take 4 g.output ++ q.output)) (given_list g.number g.sender 0 g.output))
        (cond b (given_list r.number r.sender (r.sent + 1) (take 4 h.output ++ r.output)) (given_list g.number h.sender 0 h.output))
    go true e =
        let z = eqb-true g.number 0 e in
        record {
          number = a.number;
          sender = a.sender;
          sent = ap (λ (k : ℕ). k + 1) a.sent;
          written =
              wrote g.output q.output q.sent (l z) ∙ ap₂ (λ (x y : List ℤ). x ++ y) (w.written z) a.written
              ∙ sym (wrote h.output r.output r.sent (m (sym w.number ∙ z)));
        }
    go false e = record { number = refl; sender = w.sender; sent = refl; written = refl }

all_alike : (s : Sender) (ns : List ℕ) (out out' : List ℤ) → length out ≡ length out' → Alike (sending_all s ns out) (sending_all s ns out')
unfolding sending_all
all_alike s [] out out' e = record { number = refl; sender = refl; sent = refl; written = refl }
all_alike s (n ∷ ns) out out' e =
    let g = sending s n out in
    let h = sending s n out' in
    let w = alike-word s n out out' e in
    let l : length (drop 4 g.output) ≡ length (drop 4 h.output) = rw (length-drop 4 g.output, length-drop 4 h.output, sending-length s n out, sending-length s n out', e) in
    onward-alike g h _ _ w (sent-room s n out) (sent-room s n out')
    (subst (λ (t : Sender). Alike (sending_all g.sender ns (drop 4 g.output)) (sending_all t ns (drop 4 h.output))) w.sender
    (all_alike g.sender ns (drop 4 g.output) (drop 4 h.output) l))

pub list-alike : (s : Sender) (ns : List ℕ) (out out' : List ℤ) → length out ≡ length out' → Alike (sending_list s ns out) (sending_list s ns out')
unfolding sending_list
list-alike s ns out out' e = go (sound s)
  where
    go : (b : Bool) → Alike (cond b (sending_all s ns out) (given_list 9 s 0 out)) (cond b (sending_all s ns out') (given_list 9 s 0 out'))
    go true = all_alike s ns out out' e
    go false = record { number = refl; sender = refl; sent = refl; written = refl }

-- ---- the loop's numbers, and the doors

-- a list of the sender s, whose numbers were given to the loop
pub went-as : (s : Sender) (ns : List ℕ) (out : List ℤ) → sound s ≡ true → (r : SentList) (o : List ℤ)
    → SendsList (sender_at s.accord s.turn s.state) ns out r o → SendsList s ns out r o
went-as s ns out e r o p = subst (λ (t : Sender). SendsList t ns out r o) (sym (at-is s s.accord e refl)) p

-- the loop began with s, and its sender t is given back as its numbers
pub went-is : (s : Sender) (a : Accord) (q k : ℕ) → s ≡ sender_at a q k → (ns : List ℕ) (out : List ℤ) (t : Sender) (sent : ℕ) (why : Result ⊤ Why) (o : List ℤ) → sound t ≡ true → t.accord ≡ s.accord →
    SendsList s ns out (record { sender = t; sent = sent; why = why }) o → SendsList (sender_at a q k) ns out (list_by a (record { turn = t.turn; state = t.state; sent = sent; why = why })) o
went-is s a q k is ns out t sent why o e f p =
    let b : t.accord ≡ a = f ∙ ap (λ (x : Sender). x.accord) is in
    subst (λ (x : Sender). SendsList (sender_at a q k) ns out (record { sender = x; sent = sent; why = why }) o) (at-is t a e b)
    (subst (λ (x : Sender). SendsList x ns out (record { sender = t; sent = sent; why = why }) o) is p)

-- ---- one word, of the calls themselves

pub one-sent : (s : Sender) (n : ℕ) (out : List ℤ) (r : SentList) (o : List ℤ) → SendsList s (n ∷ []) out r o → Sends s n out (record { sender = r.sender; why = r.why }) o
one-sent s n out r o p =
    record {
      number = p.number ∙ ap (λ (g : GivenList). g.number) (one_word s n out);
      sender = p.sender ∙ ap (λ (g : GivenList). g.sender) (one_word s n out);
      output = p.output ∙ ap (λ (g : GivenList). g.output) (one_word s n out);
      again = p.again;
    }

-- ---- a list cut in two, of the calls themselves

cut_list : (s : Sender) (ms ns : List ℕ) (out : List ℤ) → sending_list s (ms ++ ns) out ≡ joined (sending_list s ms out) ns
unfolding sending_list
cut_list s ms ns out = go (sound s)
  where
    go : (b : Bool) → cond b (sending_all s (ms ++ ns) out) (given_list 9 s 0 out) ≡ joined (cond b (sending_all s ms out) (given_list 9 s 0 out)) ns
    go true = cut s ms ns out
    go false = refl

-- what the promise says is what the definition says
gives : (s : Sender) (ns : List ℕ) (out : List ℤ) (r : SentList) (o : List ℤ) → SendsList s ns out r o → sending_list s ns out ≡ given_list (number_of r.why) r.sender r.sent o
gives s ns out r o p = λ i. given_list (sym p.number i) (sym p.sender i) (sym p.sent i) (sym p.output i)

module _ (s : Sender) (ms ns : List ℕ) (out : List ℤ) (q : SentList) (o : List ℤ) (first : SendsList s ms out q o) where
  both : sending_list s (ms ++ ns) out ≡ joined (given_list (number_of q.why) q.sender q.sent o) ns
  both = cut_list s ms ns out ∙ ap (λ (g : GivenList). joined g ns) (gives s ms out q o first)

  -- a first part that was refused somewhere is the whole
  pub cut-refused : (number_of q.why ≡ 0 → ⊥) → SendsList s (ms ++ ns) out q o
  cut-refused h = sends-as s (ms ++ ns) out q.sender q.sent q.why o (both ∙ rw (ne_eqb (number_of q.why) 0 h))

  -- sent whole, it leaves the rest of the output to the second
  pub cut-done : number_of q.why ≡ 0 → (r : SentList) (p : List ℤ) → SendsList q.sender ns (drop (4 * q.sent) o) r p →
      SendsList s (ms ++ ns) out (record { sender = r.sender; sent = q.sent + r.sent; why = r.why }) (take (4 * q.sent) o ++ p)
  cut-done z r p second =
      let e : sound q.sender ≡ true = ap sound first.sender ∙ list-sound s ms out (done-open s ms out (sym first.number ∙ z)) in
      let g = sym (list_open q.sender ns (drop (4 * q.sent) o) e) ∙ gives q.sender ns (drop (4 * q.sent) o) r p second in
      sends-as s (ms ++ ns) out r.sender (q.sent + r.sent) r.why (take (4 * q.sent) o ++ p)
      (both ∙ rw (eq-eqb (number_of q.why) 0 z) (ap (gone q.sent (take (4 * q.sent) o)) g))
