-- What becomes of the watchdog device of the system.
use Rattle.sl_live_play.specs.LiveOwed.{All, Front, Part, Puts, PutsStop, Tellers}
use Rattle.sl_live_play.specs.declared.play.Lived.TheVariants.{AreaFault, Done, NoMemory, Refused}
use Rattle.sl_live_play.specs.declared.play.Lived.{Lived}
use Rattle.sl_live_run.proofs.RunLaws.{if_ok_on}
use Rattle.sl_live_run.specs.Lent.{AreAllBack}
use Rattle.sl_live_run.specs.Runs.{Both, Leavings}
use Rattle.sl_live_run.specs.declared.compare.LiveStop.TheVariants as stop
use Rattle.sl_live_run.specs.declared.compare.LiveStop.{LiveStop}
use Rattle.sl_outside.specs.Disks.{Disks}
use Rattle.sl_outside.specs.Lendings.{Lending}
use Rattle.sl_output.specs.Pieces.{Piece}
use Rattle.sl_own.proofs.PlayLaws.{lived, one_back}
use Rattle.sl_own.specs.OwnGrounds.{HadOwn, IsOpened}
use Rattle.sl_own.specs.OwnOwed.{HasLived, MayRun, OwnBeginning, PutsNoPlace, RestsOwn}
use Rattle.sl_own.specs.OwnRuns.{HasToldOwn}
use Rattle.sl_own.specs.declared.no_place.NoPlace.{NoPlace}
use Rattle.sl_reader.specs.declared.live_lines.LiveLine.{LiveLine}
use Rattle.sl_run.specs.declared.header.Header.{Header}
use Rattle.sl_text.specs.Forms.{Form}
use Rattle.sl_trace.specs.Traces.{Setting, Trace}
use Rattle.sl_trace.specs.declared.command.Command.{Command}
use Rattle.std.proofs.Common.{Bool, Err, List, None, Ok, Option, Result, Some, [], false, inl, inr, refl, subst, sym, true, ℕ, ◌≡◌, ◌⊎◌, ◌∙◌, ◌∷◌}
use Rattle.std.specs.Prelude.{IfErr, IfOk, IfSome, is_ok, option_map}

-- ---- how a play did not end

-- Nothing is put out whole of which not all is.
not_done : (taken now : Option (List ℕ)) (faults later : ℕ) (text : List ℕ) (whole s : Lived) → (whole ≡ Done → ⊥) → Puts taken now faults later text whole s → s ≡ Done → ⊥
not_done taken now faults later text whole s other (All appends) is = other is
not_done taken now faults later text whole s other (Part front appends begins rose) is = absurd cc
not_done taken now faults later text whole s other (Front front appends begins) is = absurd cc

stop_not_done : (taken now : Option (List ℕ)) (faults later : ℕ) (pieces : List Piece) (e : LiveStop) (s : Lived) → PutsStop taken now faults later pieces e s → s ≡ Done → ⊥
stop_not_done taken now faults later pieces (stop.Differ machine d) s puts is = not_done taken now faults later _ _ s (λ e. absurd cc) puts is
stop_not_done taken now faults later pieces stop.NoMemory s puts is = absurd (none_is (sym puts.0 ∙ is))
  where
    none_is : NoMemory ≡ Done → ⊥
    none_is e = absurd cc

refused_not_done : (taken now : Option (List ℕ)) (faults later : ℕ) (text : List ℕ) (s : Lived) → Puts taken now faults later text Refused s → s ≡ Done → ⊥
refused_not_done taken now faults later text s puts is = not_done taken now faults later text Refused s (λ e. absurd cc) puts is

no_place_not_done : (taken now : Option (List ℕ)) (faults later : ℕ) (why : NoPlace) (s : Lived) → PutsNoPlace taken now faults later why s → s ≡ Done → ⊥
no_place_not_done taken now faults later why s (inl none) is = absurd (none_is (sym none.0 ∙ is))
  where
    none_is : NoMemory ≡ Done → ⊥
    none_is e = absurd cc
no_place_not_done taken now faults later why s (inr puts) is = not_done taken now faults later _ AreaFault s (λ e. absurd cc) puts is

-- ---- none was opened

none_rests : {W : Type 0} (path : W → List ℕ) (rested : W → Bool) (asked : Option (List ℕ)) (Lives : Type 0) (s : Lived) → (s ≡ Done → ⊥) → RestsOwn path rested asked Lives None s
none_rests path rested asked Lives s not = record { asked_for = tt; in_order = tt; whole = λ is. absurd (not is) }

-- The play ended so, without a run.
pub rests_refused : {W : Type 0} (path : W → List ℕ) (rested : W → Bool) (asked : Option (List ℕ)) (Lives : Type 0) (taken now : Option (List ℕ)) (faults later : ℕ) (text : List ℕ) (s : Lived)
    → Puts taken now faults later text Refused s → RestsOwn path rested asked Lives None s
rests_refused path rested asked Lives taken now faults later text s puts = none_rests path rested asked Lives s (refused_not_done taken now faults later text s puts)

pub rests_no_place : {W : Type 0} (path : W → List ℕ) (rested : W → Bool) (asked : Option (List ℕ)) (Lives : Type 0) (taken now : Option (List ℕ)) (faults later : ℕ) (why : NoPlace) (s : Lived)
    → PutsNoPlace taken now faults later why s → RestsOwn path rested asked Lives None s
rests_no_place path rested asked Lives taken now faults later why s puts = none_rests path rested asked Lives s (no_place_not_done taken now faults later why s puts)

pub rests_nothing : {W : Type 0} (path : W → List ℕ) (rested : W → Bool) (asked : Option (List ℕ)) (Lives : Type 0) → RestsOwn path rested asked Lives None NoMemory
rests_nothing path rested asked Lives = none_rests path rested asked Lives NoMemory (λ is. absurd cc)

pub rests_broken : {W : Type 0} (path : W → List ℕ) (rested : W → Bool) (asked : Option (List ℕ)) (Lives : Type 0) (s : Lived) → (s ≡ Done → ⊥) → RestsOwn path rested asked Lives None s
rests_broken path rested asked Lives s not = none_rests path rested asked Lives s not

-- ---- behind a run

-- One at this path was asked for.
at_path : {W : Type 0} (path : W → List ℕ) (asked : Option (List ℕ)) (v w : Option W) → option_map path v ≡ option_map path w → option_map path w ≡ asked → IfSome v (λ d. asked ≡ Some (path d))
at_path path asked None w same at = tt
at_path path asked (Some d) w same at = sym (same ∙ at)

all_some : {W : Type 0} (P Q : W → Type 0) (v : Option W) → ((d : W) → P d → Q d) → IfSome v P → IfSome v Q
all_some P Q None on so = tt
all_some P Q (Some d) on so = on d so

any_some : {W : Type 0} (P : W → Type 0) (v : Option W) → ((d : W) → P d) → IfSome v P
any_some P None on = tt
any_some P (Some d) on = on d

not_both : (b : Bool) → b ≡ false → b ≡ true → ⊥
not_both b p q = absurd cc

-- It was told to rest where the run has replies, and else not.
pub rests_behind : {W : Type 0} (path : W → List ℕ) (rested : W → Bool) (asked : Option (List ℕ)) (Lives : Type 0) (taken now : Option (List ℕ)) (faults later : ℕ) (pieces : List Piece)
    (replies : Result ℕ LiveStop) (in_order : Bool) (w v : Option W) (s : Lived) → IsOpened path rested asked w → in_order ≡ is_ok replies → option_map path v ≡ option_map path w
    → (in_order ≡ true → IfSome v (λ d. rested d ≡ true)) → (in_order ≡ false → v ≡ w) → IfOk replies (λ n. Lives) → IfErr replies (λ e. PutsStop taken now faults later pieces e s)
    → RestsOwn path rested asked Lives v s
rests_behind path rested asked Lives taken now faults later pieces (Ok n) in_order w v s opened order same rests stays lives stop = record {
  asked_for = at_path path asked v w same opened.at;
  in_order = any_some (λ d. rested d ≡ true → Lives) v (λ d is. lives);
  whole = λ is. (same ∙ opened.at, rests order);
}
rests_behind path rested asked Lives taken now faults later pieces (Err e) in_order w v s opened order same rests stays lives stop = record {
  asked_for = at_path path asked v w same opened.at;
  in_order = all_some (λ d. rested d ≡ false) (λ d. rested d ≡ true → Lives) v (λ d awake is. absurd (not_both (rested d) awake is))
      (subst (λ o. IfSome o (λ d. rested d ≡ false)) (sym (stays order)) opened.awake);
  whole = λ is. absurd (stop_not_done taken now faults later pieces e s stop is);
}

-- A run with replies has a history, and what was left came back.
pub has_lived : {D A P : Type 0} (t : Tellers A P) (events : Bool) (stands : D → Setting → Trace → Type 0) (commands : Header → List (Form Command)) (disks : Disks) (folder : List ℕ) (h : Header) (m : ℕ)
    (begun : OwnBeginning h m) (areas : Both A) (was is : List LiveLine → Type 0) (pieces : List Piece) (machines : ℕ) (remains : List (Leavings A P)) (replies : Result ℕ LiveStop)
    (lent between back : Option (List Lending)) → MayRun disks folder h m → HadOwn t.content disks folder h m areas lent between → AreAllBack t.content t.faults t.acts remains between back
    → IfOk replies (λ n. (machines ≡ 1) × (left_there : Leavings A P) × (remains ≡ left_there ∷ [])
    × HasToldOwn t.content t.faults t.acts events stands commands begun.header begun.place begun.site areas was is pieces n left_there)
    → IfOk replies (λ n. HasLived stands commands t disks folder lent back m)
has_lived t events stands commands disks folder h m begun areas was is pieces machines remains (Ok n) lent between back may had returned ok =
    record {
      header = h;
      may = may;
      given = ok.3.lines;
      history = ok.3.history;
      lives = lived t events stands commands disks folder h m begun areas was is pieces n ok.1 lent between back had (one_back t remains ok.1 between back ok.2 returned) ok.3;
    }
has_lived t events stands commands disks folder h m begun areas was is pieces machines remains (Err e) lent between back may had returned ok = tt
