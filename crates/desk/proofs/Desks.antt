-- Laws of what a request does: what a call gave, made into a desk and an answer, and the request that was read.
use Prim.Native.Nat.{ℕ, ◌+◌, ◌*◌, ◌≤◌}
use mathlib.Core.Path.{◌≡◌, refl, sym, ap, subst, ◌∙◌}
use mathlib.Core.Bool.{Bool, true, false, cond}
use mathlib.Core.List.{List, [], ◌∷◌, ◌++◌, map}
use native.Mathlib.Omega.{arith}
use borrow.Author.Tests.{le-leb}
use lib.Dec.{leb}
use lib.Ieee.{Float}
use lib.IntN.{ℤ}
use lib.ListN.{length, take, drop, length-take, length-replicate}
use lib.Seq.{take_at}
use Rattle.text.specs.Bytes.{bytes}
use Rattle.page.specs.Page.{Puts}
use Rattle.requests.specs.declared.Request.{Request}
use Rattle.requests.specs.Named.{Named}
use Rattle.requests.specs.Verb.{Sizes, Fit}
use Rattle.std.specs.Prelude.{Option, Result as Outcome}
use Rattle.samples.specs.declared.Heard.{Heard}
use Rattle.samples.specs.declared.Fault.{Fault}
use Rattle.samples.specs.Sampled.{GivenSampled, marked_given}
use Rattle.samples.specs.Heard.{heard_coordinate, heard_bits, both_or_fault, heard_sample}
use Rattle.sender.specs.declared.Sender.{Sender}
use Rattle.sender.specs.declared.SentList.{SentList}
use Rattle.sender.specs.Send.{number_of, sound, after, symbol_for, four, sending, Given}
use Rattle.sender.specs.SendList.{sending_list}
use Rattle.sender.specs.Promise.{SendsList}
use Rattle.sender.proofs.Lists.{Alike, list-alike, list-fits}
use Rattle.wei.specs.Word.{is_word}
use Rattle.reasons.specs.Reason.{given_of}
use Rattle.receiver.specs.declared.Answer.{Answer}
use Rattle.receiver.specs.Doors.{Ran}
use Rattle.receiver.specs.Promise.{Is}
use Rattle.desk.specs.declared.Desk.{Desk}
use Rattle.desk.specs.declared.Done.{Done}
use Rattle.answers.specs.Answer.{answer_room, first_four, sent_line, list_line, heard_line, sample_line, sampled_line}
use Rattle.desk.specs.Room.{Long, Ready}
use Rattle.phrases.specs.Phrase.{decimal, whole, after_spaces}
use Rattle.desk.specs.Desk.{Result, says, with_sender, send_gives, list_gives, lent, Does, Acts}
use Rattle.phrases.proofs.Phrases.{puts-as}

-- ---- what was done

-- the desk e and the text t, which are those of g
pub does : {g : Result} {most : ℕ} {page : List ℕ} {at : ℕ} {r : Done} {page' : List ℕ} {e : Desk} {t : List ℕ} {q : ℕ}
    → r ≡ record { desk = e; at = q } → e ≡ g.desk → t ≡ g.text → q ≤ at + most → Puts page at t q page' → Does g most page at r page'
does {g} {most} {page} {at} {r} {page'} is d s h p =
    let place : r.at ≡ _ = ap (λ (x : Done). x.at) is in
    record {
      desk = ap (λ (x : Done). x.desk) is ∙ d;
      puts = subst (λ (k : ℕ). Puts page at g.text k page') (sym place) (puts-as s p);
      near = omega arith;
    }

-- the request is k
pub acts : (d : Desk) (l : Named) {asked k : Request} {page : List ℕ} {at : ℕ} {r : Done} {page' : List ℕ} → asked ≡ k → Acts d k l page at r page' → Acts d asked l page at r page'
acts d l {page = page} {at = at} {r = r} {page' = page'} e g = subst (λ (a : Request). Acts d a l page at r page') (sym e) g

-- less room is room enough
pub within : {g : Result} {most most' : ℕ} {page : List ℕ} {at : ℕ} {r : Done} {page' : List ℕ} → most ≤ most' → Does g most page at r page' → Does g most' page at r page'
within h g = record { desk = g.desk; puts = g.puts; near = omega (arith, g.near) }

-- the size n that a call was lent is the one that the request names
pub at_cap : (f : ℕ → Result) {n cap most : ℕ} {page : List ℕ} {at : ℕ} {r : Done} {page' : List ℕ} → n ≡ cap → Does (f n) most page at r page' → Does (f cap) most page at r page'
at_cap f {n} {cap} {most} {page} {at} {r} {page'} e g = subst (λ (k : ℕ). Does (f k) most page at r page') e g

-- ---- a send

first-four : (a b c d : ℤ) (out : List ℤ) → first_four (a ∷ b ∷ c ∷ d ∷ out) ≡ a ∷ b ∷ c ∷ d ∷ []
first-four a b c d out = rw (le-leb 4 (length (a ∷ b ∷ c ∷ d ∷ out)) (omega arith))

-- what the output held before makes no difference
send-same : (d : Desk) (s : Sender) (w : ℕ) (out out' : List ℤ) → length out ≡ length out' → send_gives d (sending s w out) ≡ send_gives d (sending s w out')
unfolding sending sent_line four
send-same d s w out out' e = rw (← e) (by (sound s) (is_word s.accord.u w) (leb 4 (length out))) where
  gives : Bool → Bool → Bool → List ℤ → Given
  gives a b c o =
      cond a
      (cond b (cond c (record { number = 0; sender = after s w; output = four s.accord (symbol_for s w) ++ drop 4 o }) (record { number = 8; sender = s; output = o }))
      (record { number = 4; sender = s; output = o }))
      (record { number = 9; sender = s; output = o })

  by : (a b c : Bool) → send_gives d (gives a b c out) ≡ send_gives d (gives a b c out')
  by true true true =
      ap (λ (zs : List ℤ). says (with_sender d (after s w)) (decimal 0 ++ after_spaces (map whole zs) ++ bytes "\n"))
      (first-four _ _ _ _ (drop 4 out) ∙ sym (first-four _ _ _ _ (drop 4 out')))
  by true true false = refl
  by true false c = refl
  by false b c = refl

module _ (d : Desk) (s : Sender) (w : ℕ) (out : List ℤ) where
  abbrev sent : Result
  sent = send_gives d (sending s w (lent (length out)))

  same : send_gives d (sending s w out) ≡ sent
  same = send-same d s w out (lent (length out)) (sym (length-replicate (length out) _))

  pub sent-desk : {s' : Sender} → s' ≡ (sending s w out).sender → with_sender d s' ≡ sent.desk
  sent-desk e = ap (with_sender d) e ∙ ap (λ (g : Result). g.desk) same

  pub sent-text : {n : ℕ} {o : List ℤ} → n ≡ (sending s w out).number → o ≡ (sending s w out).output → sent_line n o ≡ sent.text
  sent-text e f = rw (e, f) (ap (λ (g : Result). g.text) same)

-- ---- a list

module _ (d : Desk) (s : Sender) (ns : List ℕ) (out : List ℤ) {r : SentList} {o : List ℤ} (is : SendsList s ns out r o) where
  alike : Alike (sending_list s ns out) (sending_list s ns (lent (length out)))
  alike = list-alike s ns out (lent (length out)) (sym (length-replicate (length out) _))

  pub list-desk : with_sender d r.sender ≡ (list_gives d (sending_list s ns (lent (length out)))).desk
  list-desk = ap (with_sender d) (is.sender ∙ alike.sender)

  pub list-text : {n : ℕ} → n ≡ number_of r.why → list_line r.sent n (take (4 * r.sent) o) ≡ (list_gives d (sending_list s ns (lent (length out)))).text
  list-text e = rw (e, is.number, is.sent, is.output, ← alike.number, ← alike.written, ← alike.sent)

  pub list-room : 4 * r.sent ≤ length out
  list-room = rw is.sent (list-fits s ns out)

-- ---- a piece and a finish

module _ {ran : Ran} {out : List ℕ} {a : Answer} {o : List ℕ} (is : Is ran out a o) where
  pub written-words : take a.written o ≡ ran.words
  written-words = rw (is.written, is.output) (take_at ran.words (drop (length ran.words) out) (length ran.words) refl)

  pub heard-text : heard_line a.taken (given_of a.why) (take a.written o) ≡ heard_line ran.taken (given_of ran.why) ran.words
  heard-text = rw (is.taken, is.given, written-words)

-- ---- a sample

pub answer-text : {p q : Outcome (Option Heard) Fault} {g : GivenSampled} → p ≡ q → marked_given p ≡ g → sampled_line (marked_given q) ≡ sampled_line g
answer-text e h = ap sampled_line (sym (ap marked_given e) ∙ h)

pub sample-text : (fx fy : Float) (x y : ℕ) → heard_coordinate fx ≡ heard_bits x → heard_coordinate fy ≡ heard_bits y
    → sample_line (heard_sample fx fy) ≡ sample_line (both_or_fault (heard_bits x) (heard_bits y))
unfolding heard_sample
sample-text fx fy x y hx hy = ap sample_line (ap (λ a. both_or_fault a (heard_coordinate fy)) hx ∙ ap (λ b. both_or_fault (heard_bits x) b) hy)

-- ---- sizes

-- the sizes that a request which turned out to be k names
pub sizes-of : {room : ℕ} {asked : Request} (k : Request) → asked ≡ k → Fit room asked → Sizes room k
sizes-of {room} k e f = (subst (Fit room) e f).sizes

pub short : (n : ℕ) (words : List ℕ) {m : ℕ} → n ≤ m → length (take n words) ≤ m
short n words h = rw length-take (omega arith)

-- lists that keep their lengths
long-on : {l l' : Named} → Long l → length l'.coordinates ≡ length l.coordinates → length l'.words ≡ length l.words → length l'.marks ≡ length l.marks → Long l'
long-on h a b c = record { coordinates-long = a ∙ h.coordinates-long; words_long = b ∙ h.words_long; marks-long = c ∙ h.marks-long }

-- a request that was read into the lists can be answered, where the page has room
pub ready : {asked : Request} {page : List ℕ} {at : ℕ} (l : Named) {l' : Named} → Long l → at + answer_room ≤ length page
    → length l'.coordinates ≡ length l.coordinates → length l'.words ≡ length l.words → length l'.marks ≡ length l.marks
    → Fit (length l.coordinates) asked → Ready asked page at l'
ready {asked} l long h a b c f = record { fit = subst (λ (n : ℕ). Fit n asked) (sym a) f; room = h; long = long-on long a b c }
