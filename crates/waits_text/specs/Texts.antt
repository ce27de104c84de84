-- The text that program `waits` writes. Assumes nothing: these are definitions.
use Rattle.std.specs.Prelude.{ℕ, zero, suc, ◌≡◌, List, [], ◌∷◌, ◌++◌, length, drop}
use Rattle.upd546.specs.Reports.{decimal, space, newline, refused_text}
use Rattle.io.specs.Counts.{IsPrefixLen}
use Rattle.waiting.specs.declared.Landing.{Landing}
use Rattle.waiting.specs.declared.Carried.{Carried}
use Rattle.waiting.specs.declared.Reading.{Reading}

-- How many bytes a line has at most: five numbers of 64 bits, with a byte behind each. Every text fits `waits_length`.
abbrev pub landing_length : ℕ
landing_length = 105

abbrev pub waits_length : ℕ
waits_length = 4096

-- the words landing closed cycles longest open, as ASCII codes
abbrev pub waits_heading : List ℕ
waits_heading =
    108 ∷ 97 ∷ 110 ∷ 100 ∷ 105 ∷ 110 ∷ 103 ∷ 32 ∷ 99 ∷ 108 ∷ 111 ∷ 115 ∷ 101 ∷ 100 ∷ 32 ∷ 99 ∷ 121 ∷ 99 ∷ 108 ∷ 101 ∷ 115 ∷ 32 ∷ 108 ∷ 111 ∷ 110 ∷ 103 ∷ 101 ∷ 115 ∷ 116 ∷ 32 ∷ 111 ∷ 112 ∷ 101 ∷ 110 ∷ []

-- the line of a landing, by the number of its lamp's bit: closed waits, their cycles together, the longest, the open mark
abbrev pub landing_text : ℕ → Landing → List ℕ
landing_text i l =
    decimal i
    ++ space
    ++ decimal l.closed
    ++ space
    ++ decimal l.cycles.0
    ++ space
    ++ decimal l.longest.0
    ++ space
    ++ decimal l.mark
    ++ newline

-- the lines of the landings from number i on
abbrev pub landings_text : ℕ → List Landing → List ℕ
landings_text i [] = []
landings_text i (l ∷ ls) = landing_text i l ++ landings_text (suc i) ls

unfoldable pub waits_report : Carried → List ℕ
waits_report c = waits_heading ++ newline ++ landings_text 0 c.landings

-- a refused log prints `refused` and the number
abbrev pub on_refusal : ℕ → Carried → List ℕ
on_refusal zero c = waits_report c
on_refusal (suc k) c = refused_text (suc k)

unfoldable pub waits_text : Reading → List ℕ
waits_text r = on_refusal r.number r.carried

-- what `waits` leaves in its buffer: the text at the front, r bytes, and behind it what was there
pub record Reported (reading : Reading) (before after : List ℕ) (r : ℕ) : Type 0 where
  pub counts : IsPrefixLen r after
  pub size : r ≡ length (waits_text reading)
  pub text : after ≡ waits_text reading ++ drop r before
