-- The instruction that each mnemonic names, and the codes' rows. Assumes nothing: these are definitions.
use Rattle.std.specs.Prelude.{ℕ, get_or, replicate}
use Rattle.upd546.specs.Instructions as chip
use Rattle.upd546.specs.Instructions.{Instruction, codes}
use Rattle.decode.specs.declared.Decoded.{Decoded}
use Rattle.decode.specs.declared.Decoded.TheVariants.{Tests, Accs, Sums, Moves, Pointers, Workings, Flags, Jumps, Controls, Ports}
use Rattle.decode.specs.declared.Test.{Test}
use Rattle.decode.specs.declared.Test.TheVariants as tests
use Rattle.decode.specs.declared.Acc.{Acc}
use Rattle.decode.specs.declared.Acc.TheVariants as accs
use Rattle.decode.specs.declared.Sum.{Sum}
use Rattle.decode.specs.declared.Sum.TheVariants as sums
use Rattle.decode.specs.declared.Move.{Move}
use Rattle.decode.specs.declared.Move.TheVariants as moves
use Rattle.decode.specs.declared.Pointer.{Pointer}
use Rattle.decode.specs.declared.Pointer.TheVariants as pointers
use Rattle.decode.specs.declared.Working.{Working}
use Rattle.decode.specs.declared.Working.TheVariants as workings
use Rattle.decode.specs.declared.Flag.{Flag}
use Rattle.decode.specs.declared.Flag.TheVariants as flags
use Rattle.decode.specs.declared.Jump.{Jump}
use Rattle.decode.specs.declared.Jump.TheVariants as jumps
use Rattle.decode.specs.declared.Control.{Control}
use Rattle.decode.specs.declared.Control.TheVariants as controls
use Rattle.decode.specs.declared.Port.{Port}
use Rattle.decode.specs.declared.Port.TheVariants as ports

abbrev pub named_test : Test → Instruction
named_test tests.Nop = chip.nop
named_test tests.None = chip.none
named_test tests.Tc = chip.tc
named_test tests.Ttm = chip.ttm

abbrev pub named_acc : Acc → Instruction
named_acc accs.Daa = chip.daa
named_acc accs.Das = chip.das
named_acc accs.Clc = chip.clc
named_acc accs.Inc = chip.inc
named_acc accs.Dec = chip.dec
named_acc accs.Cma = chip.cma
named_acc accs.Cia = chip.cia
named_acc accs.Stc = chip.stc
named_acc accs.Rar = chip.rar
named_acc accs.Tab = chip.tab
named_acc accs.Ci = chip.ci

abbrev pub named_sum : Sum → Instruction
named_sum sums.S = chip.s_m
named_sum sums.Ad = chip.ad
named_sum sums.Ads = chip.ads
named_sum sums.Cm = chip.cm
named_sum sums.Exl = chip.exl
named_sum sums.Adc = chip.adc
named_sum sums.Inm = chip.inm
named_sum sums.Dem = chip.dem
named_sum sums.Cmb = chip.cmb
named_sum sums.Tmb = chip.tmb
named_sum sums.Rmb = chip.rmb
named_sum sums.Smb = chip.smb

abbrev pub named_move : Move → Instruction
named_move moves.Tal = chip.tal
named_move moves.Tla = chip.tla
named_move moves.Ded = chip.ded
named_move moves.Ldi = chip.ldi
named_move moves.Cli = chip.cli
named_move moves.Ind = chip.ind
named_move moves.Ldz = chip.ldz
named_move moves.Li = chip.li

abbrev pub named_pointer : Pointer → Instruction
named_pointer pointers.Xm = chip.xm
named_pointer pointers.Xmd = chip.xmd
named_pointer pointers.Lm = chip.lm
named_pointer pointers.Xmi = chip.xmi

abbrev pub named_working : Working → Instruction
named_working workings.Taz = chip.taz
named_working workings.Taw = chip.taw
named_working workings.Tly = chip.tly
named_working workings.Thx = chip.thx
named_working workings.Xaz = chip.xaz
named_working workings.Xaw = chip.xaw
named_working workings.Xls = chip.xls
named_working workings.Xhr = chip.xhr
named_working workings.Xly = chip.xly
named_working workings.Xhx = chip.xhx

abbrev pub named_flag : Flag → Instruction
named_flag flags.Fbf = chip.fbf
named_flag flags.Fbt = chip.fbt
named_flag flags.Rfb = chip.rfb
named_flag flags.Sfb = chip.sfb

abbrev pub named_jump : Jump → Instruction
named_jump jumps.Jpa = chip.jpa
named_jump jumps.Rt = chip.rt
named_jump jumps.Rts = chip.rts
named_jump jumps.Jmp = chip.jmp
named_jump jumps.Cal = chip.cal
named_jump jumps.Czp = chip.czp
named_jump jumps.Jcp = chip.jcp

abbrev pub named_control : Control → Instruction
named_control controls.Di = chip.di
named_control controls.Ei = chip.ei
named_control controls.Tit = chip.tit
named_control controls.Xc = chip.xc
named_control controls.Stm = chip.stm

abbrev pub named_port : Port → Instruction
named_port ports.Op = chip.op
named_port ports.Ocd = chip.ocd
named_port ports.Oe = chip.oe
named_port ports.Rpb = chip.rpb
named_port ports.Reb = chip.reb
named_port ports.Spb = chip.spb
named_port ports.Seb = chip.seb
named_port ports.Ip = chip.ip
named_port ports.Ia = chip.ia
named_port ports.Tpb = chip.tpb
named_port ports.Tpa = chip.tpa

-- the instruction that is decoded
abbrev pub named : Decoded → Instruction
named (Tests op) = named_test op
named (Accs op) = named_acc op
named (Sums op) = named_sum op
named (Moves op) = named_move op
named (Pointers op) = named_pointer op
named (Workings op) = named_working op
named (Flags op) = named_flag op
named (Jumps op) = named_jump op
named (Controls op) = named_control op
named (Ports op) = named_port op

-- the instruction of a row of 16 codes, by the code's low half
abbrev pub in_row : ℕ → ℕ → Instruction
in_row high low = get_or (get_or codes high (replicate 16 chip.jcp)) low chip.none
