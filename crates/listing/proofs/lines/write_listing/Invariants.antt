use Rattle.std.specs.Io.KnownBytes.{Appends}
use Rattle.listing.specs.Lines.{lines_text}
use Rattle.listing.proofs.lines.write_listing.Given as goal

abbrev pub invariant-loop-address : goal.invariant-loop-address
invariant-loop-address g l = Appends (g.W.Write.contents l.initial.out) (g.W.Write.contents l.out) (lines_text l.image l.address)
