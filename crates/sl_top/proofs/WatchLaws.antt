-- What becomes of the watchdog device of the system, by what the words say.
use Rattle.sl_cli.specs.declared.command_words.Words.TheVariants.{Own}
use Rattle.sl_cli.specs.declared.command_words.Words.{Words}
use Rattle.sl_host_step.specs.HostServes.{Serves, whole_commands}
use Rattle.sl_live_play.specs.LiveOwed.{Tellers}
use Rattle.sl_live_play.specs.declared.play.Lived.TheVariants as lived
use Rattle.sl_live_play.specs.declared.play.Lived.{Lived}
use Rattle.sl_own.specs.OwnOwed.{HasLived, RestsOwn}
use Rattle.sl_own.specs.declared.play.OwnManner.{OwnManner}
use Rattle.sl_top.proofs.LiveLaws.{said_for}
use Rattle.sl_top.specs.Runs.{Outside, RestsBehind, Watches, asked_in}
use Rattle.sl_top.specs.Statuses.{status_of_live}
use Rattle.sl_top.specs.declared.own.OwnPlace.{OwnPlace}
use Rattle.sl_top.specs.declared.status.Status.TheVariants.{NoMemory}
use Rattle.sl_top.specs.declared.status.Status.{Status}
use Rattle.sl_top.specs.declared.top.Asked.TheVariants.{All, One}
use Rattle.sl_top.specs.declared.top.Place.{Place}
use Rattle.std.proofs.Common.{Bool, List, None, Option, Some, refl, subst, sym, ℕ, ◌≡◌}

-- For want of memory none is open.
pub unwatched : {A P W : Type 0} (tellers : Tellers A P) (path : W → List ℕ) (rested : W → Bool) (s : Option Words) (x y : Outside) → Watches tellers path rested s x y None NoMemory
unwatched tellers path rested (Some (Own folder machine watchdog syncs keeps events)) x y =
    record { ended = lived.NoMemory; rests = record { asked_for = tt; in_order = tt; whole = λ e. absurd cc }; status = refl }
unwatched tellers path rested s x y = refl

-- Where all machines of a script run none is.
pub unwatched_live : {A P W : Type 0} (tellers : Tellers A P) (path : W → List ℕ) (rested : W → Bool) (s : Option Words) (p : Place) (x y : Outside) (st : Status)
    → asked_in s ≡ Some (All p) → Watches tellers path rested s x y None st
unwatched_live tellers path rested s p x y st is = subst (λ v. Watches tellers path rested v x y None st) (sym (said_for s (All p) is)) refl

-- Where no machine runs none is.
pub unwatched_offline : {A P W : Type 0} (tellers : Tellers A P) (path : W → List ℕ) (rested : W → Bool) (s : Option Words) (x y : Outside) (st : Status)
    → asked_in s ≡ None → Watches tellers path rested s x y None st
unwatched_offline tellers path rested (Some (Own folder machine watchdog syncs keeps events)) x y st none = absurd cc
unwatched_offline tellers path rested s x y st none = refl

-- Where one machine runs it is what its run says.
pub watched : {A P W : Type 0} (tellers : Tellers A P) (path : W → List ℕ) (rested : W → Bool) (s : Option Words) (p : OwnPlace) (x y : Outside) (w : Option W) (st : Status)
    → asked_in s ≡ Some (One p) → RestsBehind tellers path rested p.folder p.watchdog p.manner x y w st → Watches tellers path rested s x y w st
watched tellers path rested s p x y w st is run = subst (λ v. Watches tellers path rested v x y w st) (sym (said_for s (One p) is)) run

-- So a run says it, where the folder and the path that it was given are those that the words name.
pub rests_behind : {A P W : Type 0} (tellers : Tellers A P) (path : W → List ℕ) (rested : W → Bool) (given folder : List ℕ) (asked watchdog : Option (List ℕ)) (manner : OwnManner)
    (x y : Outside) (w : Option W) (l : Lived) (s : Status) → given ≡ folder → asked ≡ watchdog → s ≡ status_of_live l
    → RestsOwn path rested asked (HasLived Serves whole_commands tellers x.disks given x.lendings y.lendings manner.machine) w l
    → RestsBehind tellers path rested folder watchdog manner x y w s
rests_behind tellers path rested given folder asked watchdog manner x y w l s there same status rests = record {
  ended = l;
  rests = subst (λ (f : List ℕ). RestsOwn path rested watchdog (HasLived Serves whole_commands tellers x.disks f x.lendings y.lendings manner.machine) w l) there
      (subst (λ (a : Option (List ℕ)). RestsOwn path rested a (HasLived Serves whole_commands tellers x.disks given x.lendings y.lendings manner.machine) w l) same rests);
  status = status;
}
