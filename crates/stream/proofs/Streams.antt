-- Laws of the input as a stream: it may be cut anywhere, bytes up to a newline only grow the line, and what each step of the program
-- does to its state.
use Prim.Native.Nat.{ℕ, zero, suc, ◌+◌, ◌-◌, ◌≤◌, ◌<◌}
use mathlib.Core.Path.{◌≡◌, refl, sym, ap, subst, ◌∙◌}
use mathlib.Core.Bool.{Bool, true, false, cond}
use mathlib.Core.List.{List, [], ◌∷◌, ◌++◌, append_assoc, append-nil}
use native.Mathlib.Nat.{add-sub_cancel_left}
use native.Mathlib.Omega.{arith}
use borrow.Author.Tests.{eqb-true, eq-eqb, ne_eqb}
use lib.Dec.{eqb}
use lib.ListN.{length, take, drop, length-append, length-drop}
use lib.Seq.{take_at, take-add, take-take, length-take-le}
use Rattle.text.specs.Token.{length_before, Cuts}
use Rattle.text.proofs.Digits.{to_end}
use Rattle.desk.specs.declared.Desk.{Desk}
use Rattle.line_reply.specs.declared.Lab.{Lab}
use Rattle.line_buffer.specs.declared.Part.{Part}
use Rattle.desk.specs.Desk.{Result, closed_desk}
use Rattle.line_buffer.specs.Part.{Gathered, no_part}
use Rattle.line_reply.specs.Line.{answering, Replies}
use Rattle.stream.specs.declared.Progress.{Progress}
use Rattle.stream.specs.Stream.{Course, grown, ended, streaming, last_line, Holds, Stands, heard, passed, Handed, bytes_of, text_of, Follow}
use Rattle.line_buffer.proofs.Gathering.{none-gathered}

-- ---- bytes

-- the input may be cut anywhere
pub cut-anywhere : (most : ℕ) (c : Course) (xs ys : List ℕ) → streaming most c (xs ++ ys) ≡ streaming most (streaming most c xs) ys
cut-anywhere most c [] ys = refl
cut-anywhere most c (x ∷ xs) ys = cut-anywhere most (cond (eqb x 10) (ended most c) (grown c (x ∷ []))) xs ys

-- bytes before the first newline
run : (most : ℕ) (c : Course) (ds : List ℕ) → streaming most c (take (length_before 10 ds) ds) ≡ grown c (take (length_before 10 ds) ds)
run most c [] = λ i. record { desk = c.desk; line = sym (append-nil c.line) i; text = c.text }
run most c (d ∷ ds) = by (eqb d 10) refl (λ c'. run most c' ds) where
  by : (b : Bool) → eqb d 10 ≡ b → ((c' : Course) → streaming most c' (take (length_before 10 ds) ds) ≡ grown c' (take (length_before 10 ds) ds))
      → streaming most c (take (cond b 0 (suc (length_before 10 ds))) (d ∷ ds)) ≡ grown c (take (cond b 0 (suc (length_before 10 ds))) (d ∷ ds))
  by true e h = λ i. record { desk = c.desk; line = sym (append-nil c.line) i; text = c.text }
  by false e h =
      ap (λ (x : Bool). streaming most (cond x (ended most c) (grown c (d ∷ []))) (take (length_before 10 ds) ds)) e
      ∙ h (grown c (d ∷ []))
      ∙ (λ i. record { desk = c.desk; line = append_assoc c.line (d ∷ []) (take (length_before 10 ds) ds) i; text = c.text })

-- the byte after them
newline : (ds : List ℕ) → length_before 10 ds < length ds → take (suc (length_before 10 ds)) ds ≡ take (length_before 10 ds) ds ++ 10 ∷ []
newline [] h = absurd (omega arith)
newline (d ∷ ds) h = by (eqb d 10) refl h (λ k. newline ds k) where
  by : (b : Bool) → eqb d 10 ≡ b → cond b 0 (suc (length_before 10 ds)) < length (d ∷ ds) →
      (length_before 10 ds < length ds → take (suc (length_before 10 ds)) ds ≡ take (length_before 10 ds) ds ++ 10 ∷ [])
      → take (suc (cond b 0 (suc (length_before 10 ds)))) (d ∷ ds) ≡ take (cond b 0 (suc (length_before 10 ds))) (d ∷ ds) ++ 10 ∷ []
  by true e k f = ap (λ (x : ℕ). x ∷ []) (eqb-true d 10 e)
  by false e k f = ap (λ (l : List ℕ). d ∷ l) (f (omega arith))

-- n is the count of bytes from `from` on that stand before a newline
module _ (most : ℕ) (c : Course) (chunk : List ℕ) (from n : ℕ) (cut : Cuts 10 (take (length chunk - from) (drop from chunk)) n) where
  is : n ≡ length_before 10 (drop from chunk)
  is = cut.is ∙ rw (to_end from chunk)

  grows : grown (streaming most c (take from chunk)) (take (from + n - from) (drop from chunk)) ≡ streaming most (streaming most c (take from chunk)) (take n (drop from chunk))
  grows =
      ap (λ (k : ℕ). grown (streaming most c (take from chunk)) (take k (drop from chunk))) (add-sub_cancel_left from n ∙ is)
      ∙ sym (run most (streaming most c (take from chunk)) (drop from chunk))
      ∙ ap (λ (k : ℕ). streaming most (streaming most c (take from chunk)) (take k (drop from chunk))) (sym is)

  pub to_the_end : grown (streaming most c (take from chunk)) (take (from + n - from) (drop from chunk)) ≡ streaming most c (take (from + n) chunk)
  to_the_end =
      grows
      ∙ sym (cut-anywhere most c (take from chunk) (take n (drop from chunk)))
      ∙ ap (streaming most c) (sym (take-add from n chunk))

  pub to-the-newline : {room : ℕ} → room ≡ most → from + n < length chunk →
      ended room (grown (streaming most c (take from chunk)) (take (from + n - from) (drop from chunk))) ≡ streaming most c (take (from + n + 1) chunk)
  to-the-newline same h =
      let ds : List ℕ = drop from chunk in
      let some : length_before 10 ds < length ds = omega (arith, is, length-drop from chunk) in
      let next : from + n + 1 ≡ from + suc (length_before 10 ds) = omega (arith, is) in
      let bytes : take (from + n + 1) chunk ≡ take from chunk ++ (take n ds ++ 10 ∷ []) = rw (next, take-add from (suc (length_before 10 ds)) chunk, newline ds some, ← is) in
      ap (λ (k : ℕ). ended k (grown (streaming most c (take from chunk)) (take (from + n - from) ds))) same
      ∙ ap (ended most) grows
      ∙ sym (cut-anywhere most (streaming most c (take from chunk)) (take n ds) (10 ∷ []))
      ∙ sym (cut-anywhere most c (take from chunk) (take n ds ++ 10 ∷ []))
      ∙ ap (streaming most c) (sym bytes)

-- ---- passes

-- All that the passes handed on, joined, is the answer to all that they heard, joined: it makes no difference where the answers are cut
-- into pages.
pub joined : (most : ℕ) (c : Course) (hs : List Handed) → Follow most c hs → (streaming most c (bytes_of hs)).text ≡ c.text ++ text_of hs
joined most c [] f = sym (append-nil c.text)
joined most c (h ∷ hs) f =
    ap (λ (d : Course). d.text) (cut-anywhere most c (bytes_of hs) h.bytes)
    ∙ f.1
    ∙ ap (λ (t : List ℕ). t ++ h.text) (joined most c hs f.0)
    ∙ append_assoc c.text (text_of hs) h.text

-- ---- the program's state

pub stands-as : {c c' : Course} {before line : List ℕ} {lab : Lab} {page : List ℕ} → c ≡ c' → Stands c before line lab page → Stands c' before line lab page
stands-as {before = before} {line = line} {lab = lab} {page = page} e z = subst (λ (x : Course). Stands x before line lab page) e z

holds_as : {c : Course} {line : List ℕ} {lab r : Lab} → r.desk ≡ lab.desk → r.part ≡ lab.part → Holds c line lab → Holds c line r
holds_as {c} {line} d e h = record { desk = d ∙ h.desk; part = subst (λ (p : Part). Gathered line p c.line) (sym e) h.part }

-- a page begun anew: all answers so far stand before it
pub begun : {c : Course} {line : List ℕ} {lab : Lab} (page : List ℕ) → Holds c line lab → Stands c c.text line (record { desk = lab.desk; part = lab.part; at = 0; on = lab.on }) page
begun {c} page h = record { holds = record { desk = h.desk; part = h.part }; text = sym (append-nil c.text) }

module _ {c : Course} {before line : List ℕ} {lab : Lab} {page : List ℕ} (z : Stands c before line lab page) where
  pub after-gather : {line' : List ℕ} {r : Lab} (bs : List ℕ) → r.desk ≡ lab.desk → r.at ≡ lab.at → Gathered line' r.part (c.line ++ bs) → Stands (grown c bs) before line' r page
  after-gather {line'} {r} bs d e g =
      record { holds = record { desk = d ∙ z.holds.desk; part = g }; text = z.text ∙ ap (λ (n : ℕ). before ++ take n page) (sym e) }

  pub after-flush : {r : Lab} → r.desk ≡ lab.desk → r.part ≡ lab.part → r.at ≡ lab.at → Stands c before line r page
  after-flush d e f = record { holds = holds_as d e z.holds; text = z.text ∙ ap (λ (n : ℕ). before ++ take n page) (sym f) }

  pub after-reply : (most : ℕ) {r : Lab} {page' : List ℕ} (line' : List ℕ) → lab.at ≤ length page → Replies (answering most lab.desk c.line) lab page r page' →
      Stands (ended most c) before line' r page'
  after-reply most {r} {page'} line' h p =
      let g : Result = answering most c.desk c.line in
      let same : answering most lab.desk c.line ≡ g = ap (λ (d : Desk). answering most d c.line) z.holds.desk in
      let long : length (take lab.at page) ≡ lab.at = length-take-le lab.at page h in
      let all : take r.at page' ≡ take lab.at page ++ (answering most lab.desk c.line).text =
      rw p.puts.said (take_at (take lab.at page ++ (answering most lab.desk c.line).text) (drop r.at page) r.at (rw length-append (omega (arith, p.puts.next)))) in
      record {
        holds =
            record {
              desk = p.desk ∙ ap (λ (x : Result). x.desk) same;
              part = subst (λ (q : Part). Gathered line' q []) (sym p.part) (none-gathered line');
            };
        text =
            ap (λ (t : List ℕ). t ++ g.text) z.text
            ∙ append_assoc before (take lab.at page) g.text
            ∙ ap (λ (t : List ℕ). before ++ t) (ap (λ (x : Result). take lab.at page ++ x.text) (sym same) ∙ sym all);
      }

-- ---- a pass

-- as much as is lent
pub lent-part : (last : Progress) (chunk : List ℕ) → last.from ≤ last.to → last.to ≤ length chunk → length (take (last.to - last.from) (drop last.from chunk)) ≡ last.to - last.from
lent-part last chunk h k = length-take-le (last.to - last.from) (drop last.from chunk) (omega (arith, length-drop last.from chunk))

module _ (most : ℕ) (c : Course) (last : Progress) (chunk : List ℕ) where
  pub the_end : (next : ℕ) → last.ends ≡ true → last_line most c ≡ passed most c last chunk next
  the_end next e = sym (ap (λ (b : Bool). cond b (last_line most c) (streaming most c (heard last chunk next))) e)

  pub no_end : (next : ℕ) → last.ends ≡ false → passed most c last chunk next ≡ streaming most c (heard last chunk next)
  no_end next e = ap (λ (b : Bool). cond b (last_line most c) (streaming most c (heard last chunk next))) e

  pub some_bytes : {n : ℕ} → n ≤ last.to - last.from → last.ends ≡ false
      → streaming most c (take n (take (last.to - last.from) (drop last.from chunk))) ≡ passed most c last chunk (last.from + n)
  some_bytes {n} few e =
      ap (streaming most c) (take-take n (last.to - last.from) (drop last.from chunk) few ∙ ap (λ (m : ℕ). take m (drop last.from chunk)) (sym (add-sub_cancel_left last.from n)))
      ∙ sym (no_end (last.from + n) e)

-- where the program begins
abbrev begin : Course
begin = record { desk = closed_desk; line = []; text = [] }

-- passes that have brought the program to where it is; each handed on what its page held
pub record Served (most : ℕ) (line : List ℕ) (lab : Lab) : Type 0 where
  pub passes : List Handed
  pub follow : Follow most begin passes
  pub holds : Holds (streaming most begin (bytes_of passes)) line lab

pub none-served : (most : ℕ) {line : List ℕ} {lab : Lab} → lab.desk ≡ closed_desk → lab.part ≡ no_part → Served most line lab
none-served most {line} d e =
    record { passes = []; follow = tt; holds = record { desk = d; part = subst (λ (p : Part). Gathered line p []) (sym e) (none-gathered line) } }

pub served-as : {most : ℕ} {line : List ℕ} {lab r : Lab} → r.desk ≡ lab.desk → r.part ≡ lab.part → Served most line lab → Served most line r
served-as d e s = record { passes = s.passes; follow = s.follow; holds = holds_as d e s.holds }

module _ {line line' : List ℕ} {lab r : Lab} {page : List ℕ} (last : Progress) (chunk : List ℕ) (next : ℕ) (goes_on : last.ends ≡ false) (same : length line' ≡ length line) where
  pub served-on : Served (length line) line lab → ((c : Course) → Holds c line lab → Stands (passed (length line) c last chunk next) c.text line' r page) → Served (length line') line' r
  served-on s f =
      let most : ℕ = length line in
      let c : Course = streaming most begin (bytes_of s.passes) in
      let stands = stands-as (no_end most c last chunk next goes_on) (f c s.holds) in
      subst
      (λ (n : ℕ). Served n line' r)
      (sym same)
      (record {
        passes = record { bytes = heard last chunk next; text = take r.at page } ∷ s.passes;
        follow = (s.follow, stands.text);
        holds = subst (λ (d : Course). Holds d line' r) (sym (cut-anywhere most begin (bytes_of s.passes) (heard last chunk next))) stands.holds;
      })

-- a pass does not stand still
pub some-heard : (from : ℕ) {at : ℕ} → (from ≡ 0 → at ≤ 32768) → 32768 < at → 0 < from
some-heard zero h k = absurd (omega (arith, h refl))
some-heard (suc n) h k = omega arith

-- ---- the input's end

pub no_last : (most : ℕ) (c : Course) {line : List ℕ} {part : Part} → Gathered line part c.line → part.held ≡ 0 → part.long ≡ false → c ≡ last_line most c
no_last most c {line} g e f =
    let none : length c.line ≡ 0 = ap length (sym (g.kept f)) ∙ ap (λ (n : ℕ). length (take n line)) e in
    sym (ap (λ (b : Bool). cond b c (ended most c)) (eq-eqb (length c.line) 0 none))

pub some-last : (most : ℕ) (c : Course) {line : List ℕ} {part : Part} → Gathered line part c.line → part.held ≤ length line →
    (part.held ≡ 0 → part.long ≡ false → ⊥) → ended most c ≡ last_line most c
some-last most c {line} {part} g h some = sym (ap (λ (b : Bool). cond b c (ended most c)) (ne_eqb (length c.line) 0 (by part.long refl))) where
  by : (b : Bool) → part.long ≡ b → length c.line ≡ 0 → ⊥
  by true e z = omega (arith, g.too_long e)
  by false e z = some (omega (arith, ap length (g.kept e), length-take-le part.held line h)) e
