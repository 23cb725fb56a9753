-- Document 01's page, by computation: every definition is opened. Assumes nothing.
use mathlib.Core.Path.{refl}
use Rattle.text.specs.Digits.{digits_of, decimal, signed}
use Rattle.text.specs.Words.{ascii, following, line}
use Rattle.lines.specs.Lines.{header_line, standing, place_line, over_line, refused_line}
use Rattle.lines.specs.Examples.{ExamplesHold, table, made}

pub examples-hold : ExamplesHold
unfolding table made header_line standing place_line over_line refused_line ascii following line digits_of decimal signed
examples-hold = refl
