-- What else holds of every salvage.
--   nothing_read, open-refused, some_written   "If no open record can be read, or it is refused, it writes nothing and reports all bytes as cut and
--                  the rest 0"; if one is taken something is written
--   kept-few       the records that are kept have no more bytes than there are
--   cut-end        "bytes cut from the end": all bytes but so many at the end are those of the records that are kept
--   adds-up        the four numbers account for the difference of what is read and what is written, word by word and byte by byte
--   again          SALVAGING WHAT SALVAGE WROTE CHANGES NOTHING
use mathlib.Core.Path.{◌≡◌, refl, sym, ap, subst, ◌∙◌}
use mathlib.Core.Bool.{Bool, true, false, cond}
use mathlib.Core.List.{List, [], ◌∷◌, ◌++◌, IsPrefix}
use Prim.Native.Nat.{ℕ, zero, suc, ◌+◌, ◌-◌, ◌*◌, ◌/◌, ◌%◌, ◌≤◌, ◌<◌}
use native.Mathlib.Omega.{arith}
use lib.ListN.{length, take, drop, length-append, take-append-drop}
use Rattle.trellis.proofs.Lists.{prefix-cons, prefix-onto, prefix_trans, prefix-take, prefix-length}
use Rattle.records.specs.declared.Role.{Role}
use Rattle.records.specs.declared.Phase.{Phase}
use Rattle.records.specs.declared.Phase.TheVariants.{Start}
use Rattle.records.specs.Kinds.{kind_of, may_stand, after_role}
use Rattle.records.specs.Values.{Entry, entry, word_of, bytes_of}
use Rattle.records.specs.Reading.{malformed, Reading, stops_at, followed_by, stands, reading_from, reading_of}
use Rattle.record_write.specs.Front.{word_entries}
use Rattle.record_write.proofs.Fronts.{bytes-append, word_bytes}
use Rattle.replay.specs.Meaning.{Line, closed, agreed, verdict_of}
use Rattle.replay.proofs.Meant.{FineLine}
use Rattle.replay.proofs.Forms.{Formed}
use Rattle.salvage_meaning.specs.Salvage.{is_word, running, kept, mended, Grouped, grouped, added_in, removed_in, changes, Salvage, salvage_of}
use Rattle.salvage_meaning.proofs.Running.{Small, fine-running, small-running}
use Rattle.salvage_meaning.proofs.Steps.{kept_word, kept-taken, kept-refused, mended-word, mended-head, grouped-word, grouped-head, space-more}
use Rattle.salvage_meaning.proofs.Groups.{mended-words, first-none}
use Rattle.salvage_meaning.proofs.Written.{reading-formed, kept-formed, written-agrees}
use Rattle.salvage_meaning.proofs.Same.{Bytes, Bodies, reading-bytes, word_size, unchanged, agreed-same}

-- ---- nothing to salvage

abbrev pub nothing : ℕ → Salvage
nothing n = record { bytes = []; replaced = 0; added = 0; removed = 0; cut = n }

-- nothing is kept of n bytes
none_kept : (rs : List Entry) (bs : List ℕ) → (reading_of bs).records ≡ rs → kept closed rs ≡ [] → salvage_of bs ≡ nothing (length bs)
unfolding salvage_of mended grouped changes bytes_of
none_kept rs bs e k = let z : length bs - 0 ≡ length bs = omega arith in rw (e, k, z)

pub nothing_read : (bs : List ℕ) → (reading_of bs).records ≡ [] → salvage_of bs ≡ nothing (length bs)
unfolding kept
nothing_read bs e = none_kept [] bs e refl

pub open-refused : (bs : List ℕ) (r : Entry) (rs : List Entry) → (reading_of bs).records ≡ r ∷ rs → is_word r ≡ false → agreed (running closed r).verdict ≡ false
    → salvage_of bs ≡ nothing (length bs)
open-refused bs r rs e h t = none_kept (r ∷ rs) bs e (kept-refused closed r rs h t)

pub some_written : (bs : List ℕ) (r : Entry) (rs : List Entry) → (reading_of bs).records ≡ r ∷ rs → is_word r ≡ false → agreed (running closed r).verdict ≡ true
    → (salvage_of bs).bytes ≡ [] → ⊥
unfolding salvage_of bytes_of
some_written bs r rs e h t none =
    let s = running closed r in
    let w : bytes_of (mended closed (kept closed (reading_of bs).records)) ≡ r.kind ∷ (r.body ++ bytes_of (word_entries s.due ++ mended s.line (kept s.line rs))) =
    ap (λ (qs : List Entry). bytes_of (mended closed (kept closed qs))) e ∙ ap (λ (qs : List Entry). bytes_of (mended closed qs)) (kept-taken closed r rs h t)
    ∙ ap bytes_of (mended-head closed r (kept s.line rs) h) in
    let z : suc (length (r.body ++ bytes_of (word_entries s.due ++ mended s.line (kept s.line rs)))) ≡ 0 = ap length (sym w ∙ none) in
    omega arith

-- ---- what is cut

front-from : (n : ℕ) (p : Phase) (at : ℕ) (bs : List ℕ) → IsPrefix (bytes_of (reading_from n p at bs).records) bs
unfolding reading_from bytes_of
front-from zero p at bs = (bs, refl)
front-from (suc n) p at [] = ([], refl)
front-from (suc n) p at (k ∷ bs) = go (may_stand p role) (stands k bs) (front-from n (after_role p role) (at + 1 + size) (drop size bs))
  where
    size : ℕ
    size = (kind_of k).size

    role : Role
    role = (kind_of k).role

    rest : Reading
    rest = reading_from n (after_role p role) (at + 1 + size) (drop size bs)

    go : (s t : Bool) → IsPrefix (bytes_of rest.records) (drop size bs)
        → IsPrefix (bytes_of (cond s (cond t (followed_by (entry k (take size bs)) rest) (stops_at (malformed at))) (stops_at (malformed at))).records) (k ∷ bs)
    go true true ih =
        prefix-cons k k (take size bs ++ bytes_of rest.records) bs refl
        (subst (IsPrefix (take size bs ++ bytes_of rest.records)) (take-append-drop size bs) (prefix-onto (take size bs) (bytes_of rest.records) (drop size bs) ih))
    go true false ih = (k ∷ bs, refl)
    go false t ih = (k ∷ bs, refl)

front_kept : (rs : List Entry) (l : Line) → IsPrefix (bytes_of (kept l rs)) (bytes_of rs)
unfolding kept bytes_of
front_kept [] l = ([], refl)
front_kept (r ∷ rs) l = go (is_word r) refl (agreed (running l r).verdict) refl (front_kept rs)
  where
    onto : (q : Line) → IsPrefix (bytes_of (kept q rs)) (bytes_of rs) → IsPrefix (bytes_of (r ∷ kept q rs)) (bytes_of (r ∷ rs))
    onto q h = prefix-cons r.kind r.kind (r.body ++ bytes_of (kept q rs)) (r.body ++ bytes_of rs) refl (prefix-onto r.body (bytes_of (kept q rs)) (bytes_of rs) h)

    go : (a : Bool) → is_word r ≡ a → (b : Bool) → agreed (running l r).verdict ≡ b → ((q : Line) → IsPrefix (bytes_of (kept q rs)) (bytes_of rs))
        → IsPrefix (bytes_of (kept l (r ∷ rs))) (bytes_of (r ∷ rs))
    go true h b e ih = subst (λ (qs : List Entry). IsPrefix (bytes_of qs) (bytes_of (r ∷ rs))) (sym (kept_word l r rs h)) (onto l (ih l))
    go false h true e ih = subst (λ (qs : List Entry). IsPrefix (bytes_of qs) (bytes_of (r ∷ rs))) (sym (kept-taken l r rs h e)) (onto (running l r).line (ih (running l r).line))
    go false h false e ih = subst (λ (qs : List Entry). IsPrefix (bytes_of qs) (bytes_of (r ∷ rs))) (sym (kept-refused l r rs h e)) (bytes_of (r ∷ rs), refl)

kept-begins : (bs : List ℕ) → IsPrefix (bytes_of (kept closed (reading_of bs).records)) bs
unfolding reading_of
kept-begins bs =
    let rs = (reading_from (length bs) Start 0 bs).records in
    prefix_trans (bytes_of (kept closed rs)) (bytes_of rs) bs (front_kept rs closed) (front-from (length bs) Start 0 bs)

pub kept-few : (bs : List ℕ) → length (bytes_of (kept closed (reading_of bs).records)) ≤ length bs
kept-few bs = prefix-length (bytes_of (kept closed (reading_of bs).records)) bs (kept-begins bs)

pub cut-end : (bs : List ℕ) → ((salvage_of bs).cut ≤ length bs) × (take (length bs - (salvage_of bs).cut) bs ≡ bytes_of (kept closed (reading_of bs).records))
unfolding salvage_of
cut-end bs =
    let old = bytes_of (kept closed (reading_of bs).records) in
    let few = kept-few bs in
    let e : length bs - (length bs - length old) ≡ length old = omega arith in
    (omega arith, ap (λ (n : ℕ). take n bs) e ∙ prefix-take old bs (kept-begins bs))

-- ---- the numbers account for the bytes

space-append : (rs qs : List Entry) → length (bytes_of (rs ++ qs)) ≡ length (bytes_of rs) + length (bytes_of qs)
space-append rs qs = ap length (bytes-append rs qs) ∙ length-append (bytes_of rs) (bytes_of qs)

-- so many bytes are written for so many that are kept; the words before the first record that is none count as removed
record Accounts (many : ℕ) (old : Grouped) (new : List (List ℕ)) (was : ℕ) : Type 0 where
  is : many + 5 * (length old.front + changes removed_in old.later new) ≡ was + 5 * changes added_in old.later new

module _ (many : ℕ) (old : Grouped) (new : List (List ℕ)) (was : ℕ) (a : Accounts many old new was) where
  word-accounts : (w : ℕ) → Accounts many (record { front = w ∷ old.front; later = old.later }) new (5 + was)
  word-accounts w = record { is = omega (arith, a.is) }

  head-accounts : (b : ℕ) (ws : List ℕ) → Accounts (1 + b + (5 * length ws + many)) (record { front = []; later = old.front ∷ old.later }) (ws ∷ new) (1 + b + was)
  unfolding changes
  head-accounts b ws = record { is = omega (arith, a.is) }

none-accounts : (l : Line) → Accounts (length (bytes_of (mended l []))) (grouped []) (grouped (mended l [])).later (length (bytes_of []))
unfolding mended grouped changes bytes_of
none-accounts l = record { is = refl }

accounted : (p : Phase) (rs : List Entry) → Formed p rs → (l : Line) → FineLine l
    → Accounts (length (bytes_of (mended l rs))) (grouped rs) (grouped (mended l rs)).later (length (bytes_of rs))
accounted p [] f l fine = none-accounts l
accounted p (r ∷ rs) f l fine = go (is_word r) refl (accounted (after_role p (kind_of r.kind).role) rs f.3)
  where
    q : Line
    q = (running l r).line

    ws : List ℕ
    ws = (running l r).due

    go : (a : Bool) → is_word r ≡ a → ((k : Line) → FineLine k → Accounts (length (bytes_of (mended k rs))) (grouped rs) (grouped (mended k rs)).later (length (bytes_of rs)))
        → Accounts (length (bytes_of (mended l (r ∷ rs)))) (grouped (r ∷ rs)) (grouped (mended l (r ∷ rs))).later (length (bytes_of (r ∷ rs)))
    go true h ih =
        rw (mended-word l r rs h, grouped-word r rs h, space-more r rs 4 (f.1 ∙ word_size r h)) (word-accounts _ _ _ _ (ih l fine) (word_of r.body))
    go false h ih =
        let small = small-running l r h fine in
        let e : length (bytes_of (mended l (r ∷ rs))) ≡ 1 + length r.body + (5 * length ws + length (bytes_of (mended q rs))) =
        ap (λ (x : List Entry). length (bytes_of x)) (mended-head l r rs h) ∙ space-more r (word_entries ws ++ mended q rs) _ refl
        ∙ ap (λ (n : ℕ). 1 + length r.body + n) (space-append (word_entries ws) (mended q rs) ∙ ap (λ (n : ℕ). n + length (bytes_of (mended q rs))) (word_bytes ws)) in
        rw (e, grouped-head r rs h, mended-words l r rs h small, space-more r rs _ refl) (head-accounts _ _ _ _ (ih q (fine-running l r fine)) (length r.body) ws)

pub adds-up : (bs : List ℕ) → let s = salvage_of bs in length s.bytes + 5 * s.removed + s.cut ≡ length bs + 5 * s.added
unfolding salvage_of
adds-up bs =
    let rs = (reading_of bs).records in
    let old = kept closed rs in
    let f = kept-formed Start closed rs (reading-formed bs) in
    let a = (accounted Start old f closed tt).is in
    let z : length (grouped old).front ≡ 0 = ap length (first-none old f) in
    let few = kept-few bs in
    omega arith

-- ---- once more

bytes-both : (xs ys : List ℕ) → Bytes xs → Bytes ys → Bytes (xs ++ ys)
bytes-both [] ys g h = h
bytes-both (x ∷ xs) ys g h = (g.0, bytes-both xs ys g.1 h)

bodies-both : (rs qs : List Entry) → Bodies rs → Bodies qs → Bodies (rs ++ qs)
bodies-both [] qs g h = h
bodies-both (r ∷ rs) qs g h = (g.0, bodies-both rs qs g.1 h)

bodies-bytes : (rs : List Entry) → Bodies rs → Bytes (bytes_of rs)
unfolding bytes_of
bodies-bytes [] h = tt
bodies-bytes (r ∷ rs) h = (h.0.0, bytes-both r.body (bytes_of rs) h.0.1 (bodies-bytes rs h.1))

words-bodies : (ws : List ℕ) → Small ws → Bodies (word_entries ws)
words-bodies [] h = tt
words-bodies (w ∷ ws) h =
    let a : w % 256 < 256 = omega arith in
    let b : w / 256 % 256 < 256 = omega arith in
    let c : w / 65536 % 256 < 256 = omega arith in
    let d : w / 16777216 < 256 = omega (arith, h.0) in
    ((omega arith, (a, (b, (c, (d, tt))))), words-bodies ws h.1)

bodies_kept : (rs : List Entry) (l : Line) → Bodies rs → Bodies (kept l rs)
unfolding kept
bodies_kept [] l h = tt
bodies_kept (r ∷ rs) l h = go (is_word r) (agreed (running l r).verdict) (λ q. bodies_kept rs q h.1)
  where
    go : (a b : Bool) → ((q : Line) → Bodies (kept q rs)) → Bodies (cond a (r ∷ kept l rs) (cond b (r ∷ kept (running l r).line rs) []))
    go true b ih = (h.0, ih l)
    go false true ih = (h.0, ih (running l r).line)
    go false false ih = tt

bodies-mended : (rs : List Entry) (l : Line) → FineLine l → Bodies rs → Bodies (mended l rs)
unfolding mended
bodies-mended [] l f h = tt
bodies-mended (r ∷ rs) l f h = go (is_word r) refl (λ q g. bodies-mended rs q g h.1)
  where
    go : (a : Bool) → is_word r ≡ a → ((q : Line) → FineLine q → Bodies (mended q rs))
        → Bodies (cond a (mended l rs) (r ∷ (word_entries (running l r).due ++ mended (running l r).line rs)))
    go true e ih = ih l f
    go false e ih =
        let ws = (running l r).due in
        (h.0, bodies-both (word_entries ws) (mended (running l r).line rs) (words-bodies ws (small-running l r e f)) (ih (running l r).line (fine-running l r f)))

pub written-bytes : (bs : List ℕ) → Bytes bs → Bytes (salvage_of bs).bytes
unfolding salvage_of
written-bytes bs h =
    let rs = (reading_of bs).records in
    bodies-bytes (mended closed (kept closed rs)) (bodies-mended (kept closed rs) closed tt (bodies_kept rs closed (reading-bytes bs h)))

again-nothing : salvage_of [] ≡ unchanged []
unfolding salvage_of reading_of reading_from kept mended grouped changes bytes_of
again-nothing = refl

pub again : (bs : List ℕ) → Bytes bs → salvage_of (salvage_of bs).bytes ≡ unchanged (salvage_of bs).bytes
again bs h = go (salvage_of bs).bytes refl
  where
    go : (ws : List ℕ) → (salvage_of bs).bytes ≡ ws → salvage_of ws ≡ unchanged ws
    go [] e = again-nothing
    go (w ∷ ws) e =
        let some : (salvage_of bs).bytes ≡ [] → ⊥ = λ z. none w ws (sym e ∙ z) in
        let a = written-agrees bs some in
        agreed-same (w ∷ ws) (subst Bytes e (written-bytes bs h)) a.words (ap verdict_of (sym e) ∙ a.verdict)
      where
        none : (w : ℕ) (ws : List ℕ) → w ∷ ws ≡ [] → ⊥
        none w ws z = let k : suc (length ws) ≡ 0 = ap length z in omega arith
