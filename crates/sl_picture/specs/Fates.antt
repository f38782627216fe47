-- What becomes of an open bar when something happens.
use Rattle.sl_picture.specs.declared.fates.Act.{Act}
use Rattle.sl_picture.specs.declared.fates.Deed.TheVariants.{Answered, CallOver, CameUp, Crashed, Denied, Granted, Hidden, Landed, Released, Removed, Renewed, Started, Ticked, WentDown}
use Rattle.sl_picture.specs.declared.fates.Deed.{Deed}
use Rattle.sl_picture.specs.declared.fates.Fate.{Fate}
use Rattle.sl_picture.specs.declared.shapes.Bar.{Bar}
use Rattle.sl_picture.specs.declared.shapes.Instant.{Instant}
use Rattle.sl_picture.specs.declared.shapes.Shape.TheVariants as shape
use Rattle.sl_picture.specs.declared.shapes.Shape.{Shape}
use Rattle.sl_picture.specs.declared.shapes.Text.{Text}
use Rattle.std.specs.Prelude.{Bool, None, Option, Some, false, if◌then◌else◌, nat_le, true, ℕ, ◌&&◌, ◌==◌, ◌||◌}

abbrev pub no_text : Text
no_text = record { start = 0; len = 0 }

abbrev pub act : Deed → ℕ → ℕ → Act
act deed machine number = record { deed = deed; machine = machine; number = number; until = 0; row = 0; shape = shape.Waiting; reply = no_text }

-- ---- kinds of shapes

abbrev pub is_waiting : Shape → Bool
is_waiting s = elim s [ shape.Waiting ↦ true | _ ↦ false ]

abbrev pub is_command : Shape → Bool
is_command s = elim s [ shape.Waiting ↦ true | shape.Accepted ↦ true | shape.Refused ↦ true | shape.Unclear ↦ true | _ ↦ false ]

abbrev pub is_call : Shape → Bool
is_call s = elim s [ shape.Read ↦ true | shape.Write ↦ true | shape.Orphan ↦ true | _ ↦ false ]

abbrev pub is_orphan : Shape → Bool
is_orphan s = elim s [ shape.Orphan ↦ true | _ ↦ false ]

abbrev pub is_link : Shape → Bool
is_link s = elim s [ shape.Joining ↦ true | shape.Joined ↦ true | shape.Left ↦ true | shape.Expired ↦ true | _ ↦ false ]

abbrev pub is_live_link : Shape → Bool
is_live_link s = elim s [ shape.Joining ↦ true | shape.Joined ↦ true | shape.Left ↦ true | _ ↦ false ]

abbrev pub is_holding : Shape → Bool
is_holding s = elim s [ shape.Exclusive ↦ true | shape.Shared ↦ true | _ ↦ false ]

abbrev pub is_gap : Shape → Bool
is_gap s = elim s [ shape.Gap ↦ true | shape.Wanted ↦ true | _ ↦ false ]

abbrev pub is_down : Shape → Bool
is_down s = elim s [ shape.Down ↦ true | _ ↦ false ]

abbrev pub is_idle : Shape → Bool
is_idle s = elim s [ shape.Idle ↦ true | _ ↦ false ]

abbrev pub is_of_daemon : Shape → Bool
is_of_daemon s = is_command s || is_call s || is_link s

-- ---- which bars it concerns

-- On the bar's machine, where it is known whether the bar is of the thing that is named.
unfoldable pub concerns_there : Act → Bool → Bar → Bool
concerns_there a same b =
    elim a.deed [
      | Answered ↦ is_waiting b.shape && (a.number == 0 || a.number == b.number)
      | CallOver ↦ is_call b.shape && a.number == b.number
      | Landed ↦ is_orphan b.shape && a.number == b.number
      | Renewed ↦ is_link b.shape && same
      | Removed ↦ is_link b.shape && same
      | Released ↦ is_holding b.shape && same && a.number == b.number
      | Crashed ↦ is_of_daemon b.shape
      | WentDown ↦ is_of_daemon b.shape || is_idle b.shape
      | Started ↦ is_idle b.shape
      | CameUp ↦ is_down b.shape
      | _ ↦ false
    ]

-- .. where the clock of the bar's machine shows this reading.
unfoldable pub concerns : Act → Bool → ℕ → Bar → Bool
concerns a same reading b =
    elim a.deed [
      | Granted ↦ is_gap b.shape && same
      | Denied ↦ is_gap b.shape && same
      | Ticked ↦ is_live_link b.shape && nat_le b.until reading
      | Hidden ↦ true
      | _ ↦ b.machine == a.machine && concerns_there a same b
    ]

-- ---- what it makes of them

abbrev pub stays : Bar → Fate
stays b = record { stays = Some b; ends = None }

abbrev pub ended : Instant → Bar → Bar
ended now b = record b { to = now }

abbrev pub ends : Instant → Bar → Fate
ends now b = record { stays = None; ends = Some (ended now b) }

abbrev pub turns : Instant → Bar → Shape → ℕ → Fate
turns now b s until = record { stays = Some (record b { shape = s; until = until; from = now; to = now }); ends = Some (ended now b) }

abbrev pub bridged : Act → Instant → Bar → Fate
bridged a now b =
    if b.machine == a.machine || b.from.moment == now.moment then record { stays = None; ends = None }
    else ends now (record b { machine = a.machine; row = a.row })

abbrev pub orphaned : Instant → Bar → Fate
orphaned now b =
    elim b.shape [
      | shape.Write ↦ stays (record b { shape = shape.Orphan })
      | shape.Orphan ↦ stays (record b { shape = shape.Orphan })
      | shape.Joining ↦ turns now b shape.Left b.until
      | shape.Joined ↦ turns now b shape.Left b.until
      | shape.Left ↦ turns now b shape.Left b.until
      | shape.Expired ↦ stays b
      | _ ↦ ends now b
    ]

abbrev pub dropped : Instant → Bar → Fate
dropped now b = if is_link b.shape then ends now b else orphaned now b

abbrev pub hidden : Bar → Bar
hidden b = record b { from = record { events = 0; moment = b.from.moment } }

unfoldable pub changed : Act → Instant → Bar → Fate
changed a now b =
    elim a.deed [
      | Answered ↦ ends now (record b { shape = a.shape; reply = a.reply })
      | Renewed ↦ turns now b shape.Joined a.until
      | Granted ↦ bridged a now b
      | Denied ↦ stays (record b { shape = shape.Wanted })
      | Crashed ↦ orphaned now b
      | WentDown ↦ dropped now b
      | Ticked ↦ turns now b shape.Expired b.until
      | Hidden ↦ stays (hidden b)
      | _ ↦ ends now b
    ]

abbrev pub fate : Act → Bool → ℕ → Instant → Bar → Fate
fate a same reading now b = if concerns a same reading b then changed a now b else stays b
