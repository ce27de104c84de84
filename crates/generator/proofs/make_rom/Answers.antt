-- So many bytes are written, and s is the generator behind them. Assumes nothing.
use mathlib.Core.Path.{◌∙◌, ap}
use native.Mathlib.Omega.{arith}
use Rattle.std.proofs.lemmas.List.{length-take-le}
use Rattle.generator.specs.Loads.{top_of}
use Rattle.generator.proofs.Loads.{not_stepped, one_step, no_bytes, one_byte, rom_short, rom_done}
use Rattle.generator.proofs.make_rom.Goals as goal

pub returns-then-buffer-lt-ROM_LENGTH : goal.returns-then-buffer-lt-ROM_LENGTH
returns-then-buffer-lt-ROM_LENGTH c = rom_short _ _ c.if-buffer-lt-ROM_LENGTH.true

pub loop-byte-init : goal.loop-byte-init
loop-byte-init c = record { behind = not_stepped _; written = no_bytes _ _ }

pub loop-byte-preserved : goal.loop-byte-preserved
loop-byte-preserved c =
    let l = c.loop-byte in
    let a = c.args in
    let new = c.next-new.ensures in
    record {
      behind = one_step a.seed l.byte-index l.invariant.behind new;
      written = one_byte a.seed l.byte-index _ l.byte-items l.invariant.written (omega arith) l.invariant.behind (c.top.ensures ∙ ap top_of new);
    }

pub returns : goal.returns
returns c = rom_done c.args.seed c.loop-byte.byte-index c.args.buffer.now c.if-buffer-lt-ROM_LENGTH.false (omega (arith, length-take-le 2000 c.args.buffer.now c.if-buffer-lt-ROM_LENGTH.false)) c.loop-byte.invariant.written
