-- The outcomes of the exported functions, one law each over plain values; and that an end that did something stands in a state that is
-- long enough to be written back.
use mathlib.Core.Path.{◌≡◌, refl, sym, ap, subst, ◌∙◌}
use mathlib.Core.Bool.{Bool, true, false}
use mathlib.Core.List.{List, ◌++◌}
use Prim.Native.Nat.{ℕ, ◌*◌, ◌^◌, ◌≤◌, ◌<◌}
use native.Mathlib.Omega.{arith}
use borrow.Author.Tests.{lt-ltb, le-ltb, eq-eqb, ne_eqb}
use lib.Dec.{eqb, ltb}
use lib.IntN.{ℤ}
use lib.ListN.{length, drop, take-append-drop}
use Rattle.std.specs.Prelude.{Err}
use Rattle.points.specs.declared.Accord.{Accord}
use Rattle.machine.proofs.Sound.{sound-core}
use Rattle.sender.specs.declared.Sender.{Sender}
use Rattle.sender.specs.declared.Sent.{Sent}
use Rattle.sender.specs.declared.SentList.{SentList}
use Rattle.sender.specs.Send as sender
use Rattle.sender.specs.SendList.{GivenList, sending_list}
use Rattle.sender.specs.Promise as sends
use Rattle.sender.proofs.Lists.{list-fits, list-kept, list-sound, some-open}
use Rattle.machine.specs.declared.Receiver.{Receiver}
use Rattle.machine.specs.Machine.{shut, sound}
use Rattle.reasons.specs.declared.Why.TheVariants.{Closed}
use Rattle.reasons.specs.Reason.{Reason, given_of}
use Rattle.openings.specs.declared.Start.{Start}
use Rattle.openings.specs.declared.Opened.{Opened}
use Rattle.openings.specs.Opening as openings
use Rattle.receiver_meaning.specs.Piece.{Piece}
use Rattle.receiver.specs.declared.Answer.{Answer}
use Rattle.pieces.specs.declared.Heard.{Heard}
use Rattle.receiver.specs.Doors.{Ran, hearing, finishing}
use Rattle.receiver.specs.Promise as receives
use Rattle.receiver.proofs.Doors.{hear-closed, lent-live}
use Rattle.c_layout.specs.Layout.{sender_length, sender_tag, receiver_length, receiver_tag, picks_at}
use Rattle.c_layout.specs.Tagged.{holds}
use Rattle.c_states.specs.State.{sender_in, words_of_sender, receiver_in, words_of_receiver, read_sender, read_receiver, SenderStored, ReceiverStored}
use Rattle.c_samples.specs.Counts.{told_of}
use Rattle.demfizagu.specs.Calls.{pending_in, sender_opening, receiver_opening, send_call, send_list_call, call_of, hear_call, finish_call}
use Rattle.card.specs.Card.{Card}
use Rattle.card.specs.Promise.{Checks}
use Rattle.demfizagu.specs.Promise.{Opens, Sends, SendsList, Answers, ChecksCard}
use Rattle.c_recorder.proofs.Around.{receiver-long, picks_in, around, long, picks-at, front-is, all_there}
use Rattle.c_layout.proofs.Held.{held}
use Rattle.lists.proofs.Lent.{part-back}
use Rattle.c_states.specs.declared.Copied.{Copied}
use Rattle.c_states.specs.Front.{copied_in, FrontStored}
use Rattle.c_states.proofs.Back.{front-stored}
use Rattle.demfizagu.proofs.Ends.{sender-opening-reads, sending-keeps, sending-reads, sound-reads, receiver-opening-reads, hearing-keeps, hearing-reads, finishing-keeps, finishing-reads}

differ : false ≡ true → ⊥
differ e = let z : ◌≡◌ {A = ℕ} 0 1 = cc in omega arith

-- ---- an open end has the words it needs

pub sender-long : (ws : List ℕ) → sender.sound (sender_in ws) ≡ true → sender_length ≤ length ws
unfolding sender_in
sender-long ws e = go (holds sender_length sender_tag ws) refl where
  go : (b : Bool) → holds sender_length sender_tag ws ≡ b → sender_length ≤ length ws
  go true h = (held sender_length sender_tag ws h).long
  go false h = absurd (differ (rw h at e))

pub sent-open : (s : Sender) (n : ℕ) (out : List ℤ) → (sender.sending s n out).number ≡ 0 → sender.sound s ≡ true
unfolding sender.sending
sent-open s n out e = go (sender.sound s) refl where
  go : (b : Bool) → sender.sound s ≡ b → sender.sound s ≡ true
  go true h = h
  go false h = absurd (let z : ◌≡◌ {A = ℕ} 9 0 = rw h at e in omega arith)

pub finished_open : (rx : Receiver) (room : ℕ) → (given_of (finishing rx room).why).number ≡ 0 → sound rx ≡ true
unfolding finishing
finished_open rx room e = go (sound rx) refl where
  go : (b : Bool) → sound rx ≡ b → sound rx ≡ true
  go true h = h
  go false h = absurd (let z : ◌≡◌ {A = ℕ} 9 0 = rw h at e in omega arith)

-- ---- openings

pub sender-short : (state : List ℕ) (k : Accord) → length state < sender_length → Opens sender_in (sender_opening state k) 8 state
unfolding sender_opening
sender-short state k h = rw (lt-ltb (length state) sender_length h) (record { number = refl; state-is = refl; reads = refl })

pub sender-opened : (state l : List ℕ) (k : Accord) (n : ℕ) (r : Sent) → sender_length ≤ length state → sends.Opens k r → n ≡ sender.number_of r.why →
    SenderStored r.sender state l → Opens sender_in (sender_opening state k) n l
unfolding sender_opening
sender-opened state l k n r h o e f =
    rw (le-ltb (length state) sender_length h)
    (record {
      number = e ∙ o.number;
      state-is = f.words ∙ ap (λ (s : Sender). words_of_sender s ++ drop sender_length state) o.sender;
      reads = f.reads ∙ ap read_sender o.sender ∙ sender-opening-reads k;
    })

pub receiver-short : (state : List ℕ) (k : Accord) (w : ℕ) (b : Start) → length state < receiver_length → Opens receiver_in (receiver_opening state k w b) 8 state
unfolding receiver_opening
receiver-short state k w b h = rw (lt-ltb (length state) receiver_length h) (record { number = refl; state-is = refl; reads = refl })

pub receiver-opened : (state l : List ℕ) (k : Accord) (w : ℕ) (b : Start) (n : ℕ) (r : Opened) → receiver_length ≤ length state → openings.Opens k w b r →
    n ≡ (given_of r.why).number → ReceiverStored r.receiver state l → Opens receiver_in (receiver_opening state k w b) n l
unfolding receiver_opening
receiver-opened state l k w b n r h o e f =
    rw (le-ltb (length state) receiver_length h)
    (record {
      number = e ∙ ap (λ (g : Reason). g.number) o.always-given;
      state-is = f.words ∙ ap (λ (rx : Receiver). words_of_receiver rx ++ drop receiver_length state) o.always-receiver;
      reads = f.reads ∙ ap read_receiver o.always-receiver ∙ receiver-opening-reads k w b;
    })

-- ---- a word sent

module _ (state : List ℕ) (word : ℕ) (out o : List ℤ) (n : ℕ) (r : Sent) (is : sends.Sends (sender_in state) word out r o) (number : n ≡ sender.number_of r.why) where
  pub sent-refused : (n ≡ 0 → ⊥) → Sends (send_call state word out) n state o
  unfolding send_call
  sent-refused h =
      let e = number ∙ is.number in
      record {
        number = e;
        state-is = rw (ne_eqb (sender.sending (sender_in state) word out).number 0 (λ z. h (e ∙ z)));
        reads = sym (sending-keeps (sender_in state) word out (λ z. h (e ∙ z)));
        out-is = is.output;
      }

  pub sent-done : (l : List ℕ) → n ≡ 0 → SenderStored r.sender state l → Sends (send_call state word out) n l o
  unfolding send_call
  sent-done l h f =
      let e = number ∙ is.number in
      record {
        number = e;
        state-is = rw (eq-eqb (sender.sending (sender_in state) word out).number 0 (sym e ∙ h)) (f.words ∙ ap (λ (s : Sender). words_of_sender s ++ drop sender_length state) is.sender);
        reads = f.reads ∙ ap read_sender is.sender ∙ sending-reads (sender_in state) word out (sym e ∙ h);
        out-is = is.output;
      }

  pub sent-long : n ≡ 0 → sender_length ≤ length state
  sent-long h = sender-long state (sent-open (sender_in state) word out (sym (number ∙ is.number) ∙ h))

-- ---- a list of words sent

module _ (state words : List ℕ) (out : List ℤ) (told : List ℕ) where
  pub list-short : length told < 3 → SendsList (send_list_call state words out told) 8 state out told
  unfolding send_list_call
  list-short h = rw (lt-ltb (length told) 3 h) (record { number = refl; state-is = refl; reads = refl; out-is = refl; told_is = refl })

  module _ (enough : 3 ≤ length told) (r : SentList) (o : List ℤ) (is : sends.SendsList (sender_in state) words out r o) where
    abbrev g : GivenList
    g = sending_list (sender_in state) words out

    pub list-room : 4 * r.sent ≤ length out
    list-room = rw is.sent (list-fits (sender_in state) words out)

    pub list-long : (r.sent ≡ 0 → ⊥) → sender_length ≤ length state
    list-long h = sender-long state (some-open (sender_in state) words out (λ z. h (is.sent ∙ z)))

    module _ (n : ℕ) (t : List ℕ) (number : n ≡ sender.number_of r.why) (tells : t ≡ told_of r.sent (4 * r.sent) 0 told) where
      told-list : t ≡ told_of g.sent (4 * g.sent) 0 told
      told-list = tells ∙ ap (λ (k : ℕ). told_of k (4 * k) 0 told) is.sent

      pub list-none : r.sent ≡ 0 → SendsList (send_list_call state words out told) n state o t
      unfolding send_list_call
      list-none z =
          let e : g.sent ≡ 0 = sym is.sent ∙ z in
          rw (le-ltb (length told) 3 enough)
          (record { number = number ∙ is.number; state-is = rw e; reads = sym (list-kept (sender_in state) words out e); out-is = is.output; told_is = told-list })

      pub list-some : (l : List ℕ) → (r.sent ≡ 0 → ⊥) → SenderStored r.sender state l → SendsList (send_list_call state words out told) n l o t
      unfolding send_list_call
      list-some l h f =
          let e = is.sent in
          rw (le-ltb (length told) 3 enough)
          (record {
            number = number ∙ is.number;
            state-is = rw (lt-ltb 0 g.sent (omega (arith, e, h))) (f.words ∙ ap (λ (s : Sender). words_of_sender s ++ drop sender_length state) is.sender);
            reads = f.reads ∙ ap read_sender is.sender ∙ sound-reads g.sender (list-sound (sender_in state) words out (some-open (sender_in state) words out (λ z. h (e ∙ z))));
            out-is = is.output;
            told_is = told-list;
          })

-- ---- a piece and a finish

module _ (ran : Ran) (state out told : List ℕ) (a : Answer) (o t : List ℕ) (n : ℕ) (is : receives.Is ran out a o) (number : n ≡ (given_of a.why).number)
    (tells : t ≡ told_of a.taken a.written (given_of a.why).place told) where
  told_same : t ≡ told_of ran.taken (length ran.words) (given_of ran.why).place told
  told_same = tells ∙ rw (is.taken, is.written, is.given)

  pub answered-kept : (changed : Bool) → changed ≡ false → ran.receiver ≡ receiver_in state → Answers (call_of changed ran state out told) n state o t
  answered-kept changed e same =
      record { number = number ∙ ap (λ (g : Reason). g.number) is.given; state-is = rw e; reads = sym same; out-is = is.output; told_is = told_same }

  pub answered-written : (changed : Bool) (l : List ℕ) → changed ≡ true → ReceiverStored a.receiver state l → read_receiver ran.receiver ≡ ran.receiver →
      Answers (call_of changed ran state out told) n l o t
  answered-written changed l e f itself =
      record {
        number = number ∙ ap (λ (g : Reason). g.number) is.given;
        state-is = rw e (f.words ∙ ap (λ (rx : Receiver). words_of_receiver rx ++ drop receiver_length state) is.receiver);
        reads = f.reads ∙ ap read_receiver is.receiver ∙ itself;
        out-is = is.output;
        told_is = told_same;
      }

module _ (state : List ℕ) (piece : Piece) (out told : List ℕ) where
  pub hear-short : length told < 3 → Answers (hear_call state piece out told) 8 state out told
  unfolding hear_call
  hear-short h = rw (lt-ltb (length told) 3 h) (record { number = refl; state-is = refl; reads = refl; out-is = refl; told_is = refl })

  module _ (enough : 3 ≤ length told) (a : Answer) (o t : List ℕ) (n : ℕ) (is : receives.Is (hearing (receiver_in state) piece (length out)) out a o) (number : n ≡ (given_of a.why).number)
      (tells : t ≡ told_of a.taken a.written (given_of a.why).place told) where
    ran : Ran
    ran = hearing (receiver_in state) piece (length out)

    pub hear-kept : a.taken ≡ 0 → Answers (hear_call state piece out told) n state o t
    unfolding hear_call ran
    hear-kept h =
        rw (le-ltb (length told) 3 enough)
        (answered-kept ran state out told a o t n is number tells (ltb 0 ran.taken) (rw (sym is.taken ∙ h)) (hearing-keeps (receiver_in state) piece (length out) (sym is.taken ∙ h)))

    pub hear-written : (l : List ℕ) → (a.taken ≡ 0 → ⊥) → ReceiverStored a.receiver state l → Answers (hear_call state piece out told) n l o t
    unfolding hear_call ran
    hear-written l h f =
        let e = is.taken in
        rw (le-ltb (length told) 3 enough)
        (answered-written ran state out told a o t n is number tells (ltb 0 ran.taken) l (lt-ltb 0 ran.taken (omega arith)) f
        (hearing-reads (receiver_in state) piece (length out) (λ z. h (e ∙ z))))

  -- a state that holds no receiver
  pub hear-none : holds receiver_length receiver_tag state ≡ false → 3 ≤ length told → (t : List ℕ) (n : ℕ) → n ≡ 9 → t ≡ told_of 0 0 0 told → Answers (hear_call state piece out told) n state out t
  unfolding receiver_in sound shut
  hear-none none enough t n number tells =
      hear-kept enough (record { receiver = receiver_in state; taken = 0; written = 0; why = Err Closed }) out t n (hear-closed (receiver_in state) out piece (rw none)) number tells refl

-- a piece to a receiver whose picks were lent in their place in the state
module _ (state : List ℕ) (piece : Piece) (out told : List ℕ) (yes : holds receiver_length receiver_tag state ≡ true) where
  module _ (f : Copied) (loaded : f ≡ copied_in state) (h : Heard) (sums registers picks o : List ℕ)
      (was : receives.Is (hearing (receives.parts_of (receives.lent_live true (picks_in state)) f.core f.sums f.registers (picks_in state)) piece (length out)) out
      (receives.answer_of (receives.lent_live true (picks_in state)) h sums registers picks) o)
      (enough : 3 ≤ length told) (t : List ℕ) (n : ℕ) (number : n ≡ (given_of h.why).number) (tells : t ≡ told_of h.taken h.written (given_of h.why).place told) where
    abbrev a : Answer
    a = receives.answer_of true h sums registers picks

    is : receives.Is (hearing (receiver_in state) piece (length out)) out a o
    is =
        subst (λ (rx : Receiver). receives.Is (hearing rx piece (length out)) out a o) (front-is state yes f loaded)
        (subst (λ (b : Bool). receives.Is (hearing (receives.parts_of b f.core f.sums f.registers (picks_in state)) piece (length out)) out (receives.answer_of b h sums registers picks) o)
        (lent-live true (picks_in state) (all_there state yes)) was)

    -- where nothing was taken they come back as they were
    unchanged : h.taken ≡ 0 → around state picks ≡ state
    unchanged none =
        let same = is.receiver ∙ hearing-keeps (receiver_in state) piece (length out) (sym is.taken ∙ none) in
        let kept : picks ≡ (picks_in state) = ap (λ (rx : Receiver). rx.picks) same ∙ picks-at state yes in
        rw (kept, take-append-drop 72 (drop picks_at state)) (take-append-drop picks_at state)

    pub lent-kept : h.taken ≡ 0 → Answers (hear_call state piece out told) n (around state picks) o t
    lent-kept none = rw (unchanged none) (hear-kept state piece out told enough a o t n is number tells none)

    -- where a symbol was taken they stand behind what is written back
    pub lent_written : (l : List ℕ) → length picks ≡ 72 → (h.taken ≡ 0 → ⊥) → FrontStored true h.core sums registers (around state picks) l →
        Answers (hear_call state piece out told) n l o t
    lent_written l sized some s =
        hear-written state piece out told enough a o t n is number tells l some (front-stored a.receiver state (around state picks) s sized (part-back state picks picks_at 72 (long state yes)))

module _ (state out told : List ℕ) where
  pub finish-short : length told < 3 → Answers (finish_call state out told) 8 state out told
  unfolding finish_call
  finish-short h = rw (lt-ltb (length told) 3 h) (record { number = refl; state-is = refl; reads = refl; out-is = refl; told_is = refl })

  module _ (enough : 3 ≤ length told) (a : Answer) (o t : List ℕ) (n : ℕ) (is : receives.Finishes (receiver_in state) out a o) (number : n ≡ (given_of a.why).number)
      (tells : t ≡ told_of a.taken a.written (given_of a.why).place told) where
    ends : Ran
    ends = finishing (receiver_in state) (length out)

    same : n ≡ (given_of ends.why).number
    unfolding ends
    same = number ∙ ap (λ (g : Reason). g.number) is.always.given

    pub finish-kept : (n ≡ 0 → ⊥) → Answers (finish_call state out told) n state o t
    unfolding finish_call ends same
    finish-kept h =
        rw (le-ltb (length told) 3 enough)
        (answered-kept ends state out told a o t n is.always number tells (eqb (given_of ends.why).number 0) (ne_eqb _ _ (λ z. h (same ∙ z)))
        (finishing-keeps (receiver_in state) (length out) (λ z. h (same ∙ z))))

    pub finish-written : (l : List ℕ) → n ≡ 0 → ReceiverStored a.receiver state l → Answers (finish_call state out told) n l o t
    unfolding finish_call ends same
    finish-written l h f =
        rw (le-ltb (length told) 3 enough)
        (answered-written ends state out told a o t n is.always number tells (eqb (given_of ends.why).number 0) l (eq-eqb _ _ (sym same ∙ h)) f
        (finishing-reads (receiver_in state) (length out) (sym same ∙ h)))

    pub finish-long : n ≡ 0 → receiver_length ≤ length state
    unfolding ends same
    finish-long h = receiver-long state (finished_open (receiver_in state) (length out) (sym same ∙ h))

-- ---- what is pending

pub pending-small : (state : List ℕ) → pending_in state < 2 ^ 32
unfolding pending_in
pending-small state = go (sound (receiver_in state)) refl where
  go : (b : Bool) → sound (receiver_in state) ≡ b → pending_in state < 2 ^ 32
  go true h = let f = sound-core (receiver_in state) h in rw h (omega arith)
  go false h = rw h (omega arith)

-- ---- the check of a card

module _ {k k' : Accord} {c : Card} {r : Bool} (e : k ≡ k') where
  pub card-one : r ≡ true → Checks k c r → ChecksCard k' c 1
  card-one t p = record { one-or-none = omega arith; checks = subst (λ (a : Accord). Checks a c true) e (subst (Checks k c) t p) }

  pub card-none : r ≡ false → Checks k c r → ChecksCard k' c 0
  card-none t p = record { one-or-none = omega arith; checks = subst (λ (a : Accord). Checks a c false) e (subst (Checks k c) t p) }
