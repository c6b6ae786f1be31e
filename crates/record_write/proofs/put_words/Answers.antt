-- `put_words`: one record a round.
use Rattle.std.proofs.Common.{◌≡◌, refl, sym, ap, ap₂, ◌∙◌, ℕ, ◌+◌, ◌*◌, ◌≤◌, List, [], ◌∷◌, ◌++◌, get_or, take, drop, length, arith}
use lib.Seq.{length-take-le}
use Rattle.records.specs.Values.{word_entry, bytes_of}
use Rattle.lists.proofs.Lent.{placed}
use Rattle.record_write.specs.Front.{word_entries}
use Rattle.record_write.proofs.Fronts.{word_bytes, words_more}
use Rattle.record_write.proofs.put_words.Goals as goal

pub loop-i-init : goal.loop-i-init
unfolding bytes_of
loop-i-init c = refl

-- the bytes of the words so far
so_far : (ws : List ℕ) (i : ℕ) → i ≤ length ws → length (bytes_of (word_entries (take i ws))) ≡ 5 * i
so_far ws i h = word_bytes (take i ws) ∙ ap (λ n. 5 * n) (length-take-le i ws h)

pub loop-i-preserved : goal.loop-i-preserved
loop-i-preserved c =
    let ws = c.args.words.now in
    let l = c.args.bytes.now in
    let i = c.loop-i.i in
    let w = get_or ws i 0 in
    let e : 5 * i + 5 ≡ 5 * (i + 1) = omega arith in
    placed l (bytes_of (word_entries (take i ws))) (5 * i) (so_far ws i (omega arith)) c.loop-i.invariant (bytes_of (word_entry w ∷ [])) (length (bytes_of (word_entry w ∷ []))) c.put_word.ensures
    ∙ ap₂ (λ (m : List ℕ) (n : ℕ). m ++ drop n l) (sym (words_more ws i (omega arith))) (ap (λ (n : ℕ). 5 * i + n) (word_bytes (w ∷ [])) ∙ e)
