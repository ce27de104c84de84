-- So many bytes are written, and s is the generator behind them. Assumes nothing.
use Rattle.std.proofs.Common.{◌≡◌, ◌++◌, drop}
use Rattle.generator.specs.Loads.{stepped, drawn_bytes}
use Rattle.generator.proofs.make_rom.Given as goal

abbrev pub invariant-loop-byte : goal.invariant-loop-byte
invariant-loop-byte l = record {
  behind : l.s ≡ stepped l.seed l.byte-index;
  written : l.byte-items ≡ drawn_bytes l.seed l.byte-index ++ drop l.byte-index l.initial.byte-items;
}
