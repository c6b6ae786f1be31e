-- `put_marked`: the kind, the mark, and then the coordinates where the rest of the bytes is lent.
use Rattle.std.proofs.Common.{[], ◌∷◌, arith, refl}
use mir.Facts.{to_z-of_z}
use Rattle.lists.proofs.Lent.{stored, placed}
use Rattle.records.specs.Values.{half_bytes, bytes_of}
use Rattle.record_write.proofs.put_marked.Goals as goal

pub returns : goal.returns
unfolding bytes_of
returns c =
    let a = c.args in
    let l = a.bytes.now in
    placed l (5 ∷ a.mark ∷ []) 2 refl (stored (5 ∷ a.mark ∷ []) l (omega arith)) (half_bytes a.x0 (half_bytes a.x1 (half_bytes a.x2 (half_bytes a.x3 [])))) 8
    (simp (to_z-of_z c.ranges.x0, to_z-of_z c.ranges.x1, to_z-of_z c.ranges.x2, to_z-of_z c.ranges.x3) at c.put_coordinates.ensures)
