-- The board's call of the chip of every sheet. Assumes nothing.
use Rattle.upd546.specs.declared.Sheet.{Sheet}
use Rattle.upd546.specs.TwoRunners.{chip}
use Rattle.laws.proofs.Numbers.{number_laws}
use Rattle.laws.proofs.Demand3.{jump_laws, accepted-laws, laws}
use Rattle.calls.specs.EveryCall.{EveryCallIsRefusedByNumbers, SheetRefusesBeforeTheImage, EveryRefusalChangesNothing}
use Rattle.calls.specs.EveryCall.{EveryFinishOrStopRewrites, EveryCallTellsItsRun}
use Rattle.calls.specs.Lists.{EveryListOnOneImageIsMeant, EveryListOfCallsEndsAsOneRun, EveryAcceptedImageEndsAsOneRun}
use Rattle.calls.proofs.EveryCall.{refused_by_numbers, sheet_refuses_before_the_image, changes_nothing, call_rewrites, call_tells_run}
use Rattle.calls.proofs.Lists.{calls_end, accepted-end, on_one_image}

-- EVERY CALL

pub every_call_is_refused_by_numbers : (sheet : Sheet) → EveryCallIsRefusedByNumbers (chip sheet)
every_call_is_refused_by_numbers sheet = refused_by_numbers (chip sheet) (jump_laws sheet) (number_laws sheet)

pub every_sheet_refuses_before_the_image : (sheet : Sheet) → SheetRefusesBeforeTheImage (chip sheet)
every_sheet_refuses_before_the_image sheet = sheet_refuses_before_the_image (chip sheet) (jump_laws sheet) (number_laws sheet)

pub every_refusal_changes_nothing : (sheet : Sheet) → EveryRefusalChangesNothing (chip sheet)
every_refusal_changes_nothing sheet = changes_nothing (chip sheet) (jump_laws sheet) (number_laws sheet)

pub every_finish_or_stop_rewrites : (sheet : Sheet) → EveryFinishOrStopRewrites (chip sheet)
every_finish_or_stop_rewrites sheet = call_rewrites (chip sheet) (laws sheet) (jump_laws sheet) (number_laws sheet)

pub every_call_tells_its_run : (sheet : Sheet) → EveryCallTellsItsRun (chip sheet)
every_call_tells_its_run sheet = call_tells_run (chip sheet) (laws sheet) (jump_laws sheet) (number_laws sheet)

-- LISTS

pub every_list_of_calls : EveryListOfCallsEndsAsOneRun chip
every_list_of_calls = calls_end chip laws jump_laws number_laws

pub every_list_on_one_image : EveryListOnOneImageIsMeant chip
every_list_on_one_image = on_one_image chip jump_laws number_laws

pub every_accepted_image : EveryAcceptedImageEndsAsOneRun chip
every_accepted_image = accepted-end chip laws jump_laws number_laws accepted-laws
