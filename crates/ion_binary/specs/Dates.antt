-- A day of the code as a date of the calendar.
use Rattle.ion_values.specs.Dates.{Date}
use Rattle.ion_binary.specs.declared.timestamps.Day.{Day}

abbrev pub date_of : Day → Date
date_of d = record { year = d.year; month = d.month; day = d.day }
