-- The letters passed are the value; the rest is still to be read. Assumes nothing.
use mathlib.Core.Path.{◌≡◌}
use lib.ListN.{drop}
use Rattle.assembly.specs.Assembling.{number_from}
use Rattle.assembly.proofs.hexadecimal.Given as goal

abbrev pub invariant-loop-c : goal.invariant-loop-c
invariant-loop-c l = number_from l.value (drop l.c-index l.text) ≡ number_from 0 l.text
