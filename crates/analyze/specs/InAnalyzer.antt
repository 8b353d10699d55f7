-- What the fields of an analyzer mean.
use Rattle.std.specs.Prelude.{List}
use Rattle.sat_lits.specs.declared.literal.Inner.{Inner}
use Rattle.analyze.specs.declared.analyzer.Analyzer.TheInside.{Inside}

-- the variables that the last analysis met
abbrev pub met_of : Inside → List Inner
met_of analyzer = analyzer.walk.marks.vars
