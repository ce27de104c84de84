-- The code's kinds of operands as those of the definitions. Assumes nothing: these are definitions.
use Rattle.mnemonics.specs.Mnemonics as text
use Rattle.mnemonics.specs.declared.Kind.{Kind}
use Rattle.mnemonics.specs.declared.Kind.TheVariants.{Without, Bits, Nibble, Byte, Far, ZeroPage, InPage, NoInstruction}

abbrev pub kind_by : Kind → text.Kind
kind_by Without = text.without
kind_by Bits = text.bits
kind_by Nibble = text.nibble
kind_by Byte = text.byte
kind_by Far = text.far
kind_by ZeroPage = text.zero_page
kind_by InPage = text.in_page
kind_by NoInstruction = text.no_instruction
