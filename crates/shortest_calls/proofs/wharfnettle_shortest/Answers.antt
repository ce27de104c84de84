-- A buffer that is too short, and what is found, with k in the buffer. Assumes nothing.
use mathlib.Core.Path.{◌∙◌, ap}
use mathlib.Core.List.{◌++◌}
use Prim.Native.Nat.{ℕ}
use native.Mathlib.Omega.{arith}
use lib.ListN.{drop}
use Rattle.upd546.specs.Bytes.{bytes_of}
use Rattle.upd546.specs.TwoRunners.{chip}
use Rattle.shortest.specs.Search.{found_of}
use Rattle.shortest_calls.specs.Call.{found_length}
use Rattle.shortest_calls.proofs.Calling.{too_short, long_enough}
use Rattle.shortest_calls.proofs.wharfnettle_shortest.Goals as goal

pub returns-then-found-lt-FOUND_LENGTH : goal.returns-then-found-lt-FOUND_LENGTH
returns-then-found-lt-FOUND_LENGTH c =
    let a = c.args in
    too_short (chip (record { rom = a.rom_bytes; rows = a.rows; levels = a.levels })) a.image.now a.rom.now a.schedule.now a.n
    a.log.now a.found.now (omega (arith, c.if-found-lt-FOUND_LENGTH.true))

pub returns : goal.returns
returns c =
    let a = c.args in
    let found = a.found.now in
    long_enough (chip (record { rom = a.rom_bytes; rows = a.rows; levels = a.levels })) a.image.now a.rom.now a.schedule.now a.n
    a.log.now found (omega (arith, c.if-found-lt-FOUND_LENGTH.false)) (found_of c.find_in-a.result) _ c.find_in-a.ensures c.number_of.result _
    c.number_of.ensures
    (c.put_number.ensures ∙ ap (λ (k : ℕ). bytes_of found_length k ++ drop found_length found) c.records_of.ensures)
