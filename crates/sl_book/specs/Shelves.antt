-- A book that is there, whatever it is.
use Rattle.logbook.specs.Pages.{Book}

-- It is never read.
abbrev pub any_book : Book
any_book = record { number = 0; log_name = 0; cells_name = 0 }
