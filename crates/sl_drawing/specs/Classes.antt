-- The texts of classes and signs.
use Rattle.sl_drawing.specs.declared.classes.Class.TheVariants.{Accepted, Bad, Crash, Dim, Down, Expired, Flying, Gap, Grid, Ground, Held, Hit, Idle, Inside, Joined, Joining, Lane, Late, Left, Number, Orphan, Passing, Plain, Read, Refused, Renewed, Reset, Shared, Unclear, Up, Waiting, Wanted, Write}
use Rattle.sl_drawing.specs.declared.classes.Class.{Class}
use Rattle.sl_drawing.specs.declared.classes.Symbol.TheVariants as symbol
use Rattle.sl_drawing.specs.declared.classes.Symbol.{Symbol}
use Rattle.std.specs.Prelude.{List, codes, if◌then◌else◌, ℕ, ◌==◌}

abbrev pub held_text : ℕ → List ℕ
held_text colour =
    if colour == 0 then codes "r0" else if colour == 1 then codes "r1" else if colour == 2 then codes "r2" else if colour == 3 then codes "r3" else if colour == 4 then codes "r4"
    else if colour == 5 then codes "r5" else if colour == 6 then codes "r6" else codes "r7"

unfoldable pub class_text : Class → List ℕ
class_text Ground = codes "bg"
class_text Lane = codes "lane"
class_text Hit = codes "hit"
class_text Number = codes "n"
class_text Plain = codes "m"
class_text Inside = codes "m in"
class_text Bad = codes "m bad"
class_text Dim = codes "m dim"
class_text Grid = codes "m grid"
class_text Passing = codes "pass"
class_text Down = codes "down"
class_text Idle = codes "idle"
class_text Accepted = codes "ok"
class_text Refused = codes "no"
class_text Waiting = codes "open"
class_text Unclear = codes "open"
class_text Flying = codes "air"
class_text Late = codes "late"
class_text Orphan = codes "late"
class_text Read = codes "m read"
class_text Write = codes "m write"
class_text Renewed = codes "m write"
class_text Joining = codes "joining"
class_text Joined = codes "joined"
class_text Left = codes "left"
class_text Expired = codes "failing"
class_text Gap = codes "gap"
class_text Wanted = codes "wanted"
class_text (Held colour) = held_text colour
class_text Shared = codes "m shared"
class_text Reset = codes "m reset"
class_text Crash = codes "m crash"
class_text Up = codes "m up"

unfoldable pub symbol_text : Symbol → List ℕ
symbol_text symbol.Held = codes "held"
symbol_text symbol.Failed = codes "failed"
symbol_text symbol.Torn = codes "torn"
symbol_text symbol.Dropped = codes "dropped"
symbol_text symbol.Term = codes "term"
symbol_text symbol.Kill = codes "kill"
symbol_text symbol.Note = codes "note"
