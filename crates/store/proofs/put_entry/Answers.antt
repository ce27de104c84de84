-- The name's bytes, and the image's behind them. Assumes nothing.
use Prim.Native.Nat.{◌+◌, ◌*◌}
use native.Mathlib.Omega.{arith}
use Rattle.laws.proofs.Tails.{put_front}
use Rattle.store.specs.Entries.{chip_image, name_length, entry_length}
use Rattle.store.proofs.Entries.{entry_put}
use Rattle.store.proofs.put_entry.Goals as goal

pub returns : goal.returns
returns c =
    let a = c.args in
    let store = a.store.now in
    let at = entry_length chip_image * a.i in
    entry_put chip_image store (record { name = a.name.now; image = a.image.now }) at (omega arith) c.requires.1 c.requires.2
    (put_front at store a.name.now c.copy.ensures)
    (put_front (at + name_length) _ a.image.now c.copy-2.ensures)
