-- Two stops are the same where their numbers are. Assumes nothing.
use Rattle.std.proofs.Common.{◌≡◌, ◌∙◌, refl, sym, ap, eqb}
use denote.Enum.Bare.{sameb}
use Rattle.runs.specs.contracts.Stop.{the_type}
use Rattle.runs.specs.declared.Stop.{Stop}
use Rattle.runs.specs.declared.Stop.TheVariants.{LogFull, RomEnd, NoInstruction}
use Rattle.runs.specs.Numbers.{stop_number, end_of}
use Rattle.shortest.specs.Search.{stops_with}
use Rattle.shortest.proofs.stopped_by.Goals as goal

by_number : (a b : Stop) → sameb the_type a b ≡ eqb (stop_number a) (stop_number b)
by_number LogFull LogFull = refl
by_number LogFull RomEnd = refl
by_number LogFull NoInstruction = refl
by_number RomEnd LogFull = refl
by_number RomEnd RomEnd = refl
by_number RomEnd NoInstruction = refl
by_number NoInstruction LogFull = refl
by_number NoInstruction RomEnd = refl
by_number NoInstruction NoInstruction = refl

pub returns-in-Stopped : goal.returns-in-Stopped
returns-in-Stopped c = c.eq.ensures ∙ by_number c.in-Stopped.stop c.args.why ∙ ap (λ e. stops_with (stop_number c.args.why) (end_of e)) (sym c.in-Stopped.is)
