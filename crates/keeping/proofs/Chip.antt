-- The store of the chip of every sheet. Assumes nothing.
use Rattle.upd546.specs.TwoRunners.{chip}
use Rattle.laws.proofs.Demand3.{image_laws}
use Rattle.keeping.specs.Lists.{EveryListKeepsTheLast, EveryListOnOneStoreIsMeant, SheetRefusesFirst, MalformedRefusesBeforeRoom}
use Rattle.keeping.proofs.Lists.{lists_keep, on_one_store_lem, sheet_refuses_first, malformed_refuses_before_room}

-- EVERY LIST of stores and recalls: each recall hands back the last image stored under its name
pub every_list_keeps_the_last : EveryListKeepsTheLast chip
every_list_keeps_the_last = lists_keep chip (λ sheet legal. image_laws sheet)

pub every_list_on_one_store : EveryListOnOneStoreIsMeant chip
every_list_on_one_store = on_one_store_lem chip

-- "71, before all else"
pub every_sheet_refuses_first : SheetRefusesFirst chip
every_sheet_refuses_first = sheet_refuses_first chip

-- 51 before 53
pub every_malformed_image_refuses_before_room : MalformedRefusesBeforeRoom chip
every_malformed_image_refuses_before_room = malformed_refuses_before_room chip
