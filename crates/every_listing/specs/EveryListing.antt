-- What is claimed of every listing. Assumes nothing: these are definitions.
use Rattle.std.specs.Prelude.{◌≡◌, List, ℕ, ◌<◌, ◌≤◌, length, get_or}
use Rattle.upd546.specs.TheMachine.{rom_length}
use Rattle.listing.specs.Listing.{listing_text}
use Rattle.assembly.specs.Assembling.{Assembled, assembled, no_mistake}

-- the text stands for these bytes, and has no mistake
abbrev pub bytes_alone : List ℕ → Assembled
bytes_alone rom = record { mistake = no_mistake; line = 0; bytes = rom }

-- EVERY LISTING COMES BACK: of a ROM of at most 2,000 bytes, the listing assembled is the ROM
abbrev pub EveryListingComesBack : Type 0
EveryListingComesBack =
    (rom : List ℕ) → length rom ≤ rom_length → ((i : ℕ) → get_or rom i 0 < 256) → assembled (listing_text rom) ≡ bytes_alone rom
