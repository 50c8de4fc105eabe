-- A series and its tables, of the slices that are lent.
use Rattle.print_lines.specs.declared.Tables.TheInside.{Inside}
use Rattle.print_lines.specs.Text.{SeriesTables}

abbrev pub series_of : Inside → SeriesTables
series_of s = record { figures = s.figures.now; d10 = s.d10.now; d11 = s.d11.now; d12 = s.d12.now; d13 = s.d13.now; c17 = s.c17.now }
