-- Which statuses a run may end with, by what its words say, and why.
use Rattle.sl_area.specs.AreaSizes.{Sizes}
use Rattle.sl_cli.specs.declared.command_words.Words.TheVariants.{Direct, Draw, Generate, Help, Label, Live, Own, Replay, Schedule, Version}
use Rattle.sl_cli.specs.declared.command_words.Words.{Words}
use Rattle.sl_cli.specs.declared.texts.TheConstants.{HELP, VERSION}
use Rattle.sl_direct.proofs.AreaLaws.{leader_is_told}
use Rattle.sl_direct.proofs.UpgradeTold.{upgrade_is_told}
use Rattle.sl_direct.specs.Actions.{Directs, path_of}
use Rattle.sl_direct.specs.Laws.{can_upgrade}
use Rattle.sl_direct.specs.declared.action.Action.TheVariants.{InitLabelled, ReadLeader, Upgrade}
use Rattle.sl_direct.specs.declared.action.Action.{Action}
use Rattle.sl_direct.specs.declared.action.Directed.TheVariants as directed
use Rattle.sl_direct.specs.declared.action.Directed.{Directed}
use Rattle.sl_draw.specs.Drawings.{PictureOwed}
use Rattle.sl_headline.specs.PromisedRuns.{PromisedRun}
use Rattle.sl_picture.specs.declared.kept.Part.{Part}
use Rattle.sl_top.specs.Pictures.{Draws}
use Rattle.sl_report.specs.OwedReports.{MayHaveBeen, ReplayHeadline, is_whole_status}
use Rattle.sl_report.specs.Languages.{whole_language}
use Rattle.sl_sound.proofs.Reports.OneReport.{accepted_schedules_end_well as accepted_runs}
use Rattle.sl_sound.specs.Reports.ReportLaws.{replay_status}
use Rattle.sl_live_play.specs.LiveOwed.{Tellers}
use Rattle.sl_live_play.specs.declared.play.Manner.{Manner}
use Rattle.sl_own.specs.declared.play.OwnManner.{OwnManner}
use Rattle.sl_time.specs.Times.{TimingNumbers}
use Rattle.sl_top.proofs.OwnLaws.{own_caused}
use Rattle.sl_top.proofs.LiveLaws.{live_caused, not_a_look, not_bad as not_bad_live}
use Rattle.sl_top.proofs.RunLaws.{whole_headers}
use Rattle.sl_top.specs.StatusLaws.{AcceptedSchedulesEndWell, CantBeUpgraded, CausesHaveStatuses, HasItsCause, IsNotTheLeader, NothingFailed, OtherSchedulesAreRefused, StatusesHaveCauses, has_leader}
use Rattle.sl_top.specs.Runs.{ActsOn, IsCutShort, IsDirect, IsWritten, Outside, PutsOut, Replays, RunsLive, RunsOwn, bad_words_text}
use Rattle.sl_top.specs.Statuses.{code, status_after}
use Rattle.sl_top.specs.Stories.{Schedules}
use Rattle.sl_top.specs.declared.status.Status.TheVariants.{AreaFault, BadWords, Differs, Done, NoMemory, NotTheLeader, ReadFault, Refused, WriteFault}
use Rattle.sl_top.specs.declared.status.Status.{Status}
use Rattle.sl_trace.specs.declared.command.LockspaceArg.{LockspaceArg}
use Rattle.sl_trace.specs.declared.command.ResourceArg.{ResourceArg}
use Rattle.sl_io.specs.FaultCauses.{Rose}
use Rattle.std.proofs.Common.{Bool, IsTrue, List, None, Option, Some, ap, append-nil, arith, false, inl, inr, refl, subst, sym, true, ℕ, ◌++◌, ◌<◌, ◌∙◌, ◌≡◌}
use Rattle.std.specs.Io.KnownBytes.{Consumes, IsAtEnd}
use Rattle.std.specs.Prelude.{◌⊎◌}

-- ---- a text that is put out

put_status : (text written : List ℕ) (whole s : Status) → IsWritten text whole written s → (s ≡ whole) ⊎ IsCutShort s
put_status text written whole s (inl h) = inl h.1
put_status text written whole s (inr h) = inr h.1

none_of : (s t whole : Status) → (s ≡ whole) ⊎ IsCutShort s → s ≡ t → (whole ≡ t → ⊥) → (WriteFault ≡ t → ⊥) → (NoMemory ≡ t → ⊥) → ⊥
none_of s t whole (inl h) is a b c = a (sym h ∙ is)
none_of s t whole (inr (inl h)) is a b c = b (sym h ∙ is)
none_of s t whole (inr (inr h)) is a b c = c (sym h ∙ is)

done_caused : (w : Option Words) (x y : Outside) (text : List ℕ) (s : Status) → PutsOut x.taken y.taken x.sink_faults y.sink_faults text Done s → HasItsCause w x y s
done_caused w x y text s put =
    let ends : (s ≡ Done) ⊎ IsCutShort s = put_status text put.written Done s put.text_is in
    record {
      refused = λ e. absurd (none_of s Refused Done ends e (λ no. absurd cc) (λ no. absurd cc) (λ no. absurd cc));
      bad_words = λ e. absurd (none_of s BadWords Done ends e (λ no. absurd cc) (λ no. absurd cc) (λ no. absurd cc));
      read_fault = λ e. absurd (none_of s ReadFault Done ends e (λ no. absurd cc) (λ no. absurd cc) (λ no. absurd cc));
      write_fault = put.cause;
      area_fault = λ e. absurd (none_of s AreaFault Done ends e (λ no. absurd cc) (λ no. absurd cc) (λ no. absurd cc));
      not_the_leader = λ e. absurd (none_of s NotTheLeader Done ends e (λ no. absurd cc) (λ no. absurd cc) (λ no. absurd cc));
      differs = λ e. absurd (none_of s Differs Done ends e (λ no. absurd cc) (λ no. absurd cc) (λ no. absurd cc));
    }

bad_caused : (x y : Outside) (s : Status) → PutsOut x.taken y.taken x.sink_faults y.sink_faults bad_words_text BadWords s → HasItsCause None x y s
bad_caused x y s put =
    let ends : (s ≡ BadWords) ⊎ IsCutShort s = put_status bad_words_text put.written BadWords s put.text_is in
    record {
      refused = λ e. absurd (none_of s Refused BadWords ends e (λ no. absurd cc) (λ no. absurd cc) (λ no. absurd cc));
      bad_words = λ e. refl;
      read_fault = λ e. absurd (none_of s ReadFault BadWords ends e (λ no. absurd cc) (λ no. absurd cc) (λ no. absurd cc));
      write_fault = put.cause;
      area_fault = λ e. absurd (none_of s AreaFault BadWords ends e (λ no. absurd cc) (λ no. absurd cc) (λ no. absurd cc));
      not_the_leader = λ e. absurd (none_of s NotTheLeader BadWords ends e (λ no. absurd cc) (λ no. absurd cc) (λ no. absurd cc));
      differs = λ e. absurd (none_of s Differs BadWords ends e (λ no. absurd cc) (λ no. absurd cc) (λ no. absurd cc));
    }

-- ---- a schedule that is told

schedule_caused : (seed hosts events : ℕ) (paired : Bool) (x y : Outside) (s : Status) → Schedules hosts events paired x.taken y.taken x.sink_faults y.sink_faults s
    → HasItsCause (Some (Schedule seed hosts events paired)) x y s
schedule_caused seed hosts events paired x y s told =
    record {
      refused = λ e. absurd (none_of s Refused Done told.ended e (λ no. absurd cc) (λ no. absurd cc) (λ no. absurd cc));
      bad_words = λ e. absurd (none_of s BadWords Done told.ended e (λ no. absurd cc) (λ no. absurd cc) (λ no. absurd cc));
      read_fault = λ e. absurd (none_of s ReadFault Done told.ended e (λ no. absurd cc) (λ no. absurd cc) (λ no. absurd cc));
      write_fault = told.write_fault;
      area_fault = λ e. absurd (none_of s AreaFault Done told.ended e (λ no. absurd cc) (λ no. absurd cc) (λ no. absurd cc));
      not_the_leader = λ e. absurd (none_of s NotTheLeader Done told.ended e (λ no. absurd cc) (λ no. absurd cc) (λ no. absurd cc));
      differs = λ e. absurd (none_of s Differs Done told.ended e (λ no. absurd cc) (λ no. absurd cc) (λ no. absurd cc));
    }

-- ---- a replay

-- No other status tells of a report.
outside : (ended : Bool) (read written : List ℕ) (s t : Status) → ReplayHeadline PromisedRun whole_language ended read written (code s) → s ≡ t
    → (ReplayHeadline PromisedRun whole_language ended read written (code t) → ⊥) → ⊥
outside ended read written s t headline is never = never (subst (λ u. ReplayHeadline PromisedRun whole_language ended read written (code u)) is headline)

replay_caused : (x y : Outside) (s : Status) → Replays x.left y.left x.source_faults y.source_faults x.taken y.taken x.sink_faults y.sink_faults s → HasItsCause (Some Replay) x y s
replay_caused x y s run =
    record {
      refused = λ e. inl (inl refl);
      bad_words = λ e. absurd (outside run.ended run.read run.written s BadWords run.headline e (λ h. let no : false ≡ true = h.0 in absurd cc));
      read_fault = λ e. (inl (inl refl), run.read_fault e);
      write_fault = run.write_fault;
      area_fault = λ e. absurd (outside run.ended run.read run.written s AreaFault run.headline e (λ h. let no : false ≡ true = h.0 in absurd cc));
      not_the_leader = λ e. absurd (outside run.ended run.read run.written s NotTheLeader run.headline e (λ h. let no : false ≡ true = h.0 in absurd cc));
      differs = λ e. absurd (outside run.ended run.read run.written s Differs run.headline e (λ h. let no : false ≡ true = h.0 in absurd cc));
    }

-- ---- a drawing

-- No other status tells of a picture.
not_drawn : (part : Part) (ended : Bool) (read written : List ℕ) (s t : Status) → PictureOwed PromisedRun whole_language part ended read written (code s) → s ≡ t
    → (PictureOwed PromisedRun whole_language part ended read written (code t) → ⊥) → ⊥
not_drawn part ended read written s t owed is never = never (subst (λ u. PictureOwed PromisedRun whole_language part ended read written (code u)) is owed)

draw_caused : (first last : ℕ) (x y : Outside) (s : Status)
    → Draws (record { first = first; last = last }) x.left y.left x.source_faults y.source_faults x.taken y.taken x.sink_faults y.sink_faults s → HasItsCause (Some (Draw first last)) x y s
draw_caused first last x y s run =
    record {
      refused = λ e. inl (inr (first, last, refl));
      bad_words = λ e. absurd (not_drawn _ run.ended run.read run.written s BadWords run.owed e (λ h. let no : false ≡ true = h.0 in absurd cc));
      read_fault = λ e. (inl (inr (first, last, refl)), run.read_fault e);
      write_fault = run.write_fault;
      area_fault = λ e. absurd (not_drawn _ run.ended run.read run.written s AreaFault run.owed e (λ h. let no : false ≡ true = h.0 in absurd cc));
      not_the_leader = λ e. absurd (not_drawn _ run.ended run.read run.written s NotTheLeader run.owed e (λ h. let no : false ≡ true = h.0 in absurd cc));
      differs = λ e. absurd (not_drawn _ run.ended run.read run.written s Differs run.owed e (λ h. let no : false ≡ true = h.0 in absurd cc));
    }

-- ---- an action

not_refused : (d : Directed) → status_after d ≡ Refused → ⊥
not_refused directed.Done e = absurd cc
not_refused directed.WriteFault e = absurd cc
not_refused directed.NoMemory e = absurd cc
not_refused directed.AreaFault e = absurd cc
not_refused directed.NotTheLeader e = absurd cc
not_refused directed.TornBlock e = absurd cc

not_bad : (d : Directed) → status_after d ≡ BadWords → ⊥
not_bad directed.Done e = absurd cc
not_bad directed.WriteFault e = absurd cc
not_bad directed.NoMemory e = absurd cc
not_bad directed.AreaFault e = absurd cc
not_bad directed.NotTheLeader e = absurd cc
not_bad directed.TornBlock e = absurd cc

not_read : (d : Directed) → status_after d ≡ ReadFault → ⊥
not_read directed.Done e = absurd cc
not_read directed.WriteFault e = absurd cc
not_read directed.NoMemory e = absurd cc
not_read directed.AreaFault e = absurd cc
not_read directed.NotTheLeader e = absurd cc
not_read directed.TornBlock e = absurd cc

not_differing : (d : Directed) → status_after d ≡ Differs → ⊥
not_differing directed.Done e = absurd cc
not_differing directed.WriteFault e = absurd cc
not_differing directed.NoMemory e = absurd cc
not_differing directed.AreaFault e = absurd cc
not_differing directed.NotTheLeader e = absurd cc
not_differing directed.TornBlock e = absurd cc

write_failed : (d : Directed) → status_after d ≡ WriteFault → d ≡ directed.WriteFault
write_failed directed.Done e = absurd cc
write_failed directed.WriteFault e = refl
write_failed directed.NoMemory e = absurd cc
write_failed directed.AreaFault e = absurd cc
write_failed directed.NotTheLeader e = absurd cc
write_failed directed.TornBlock e = absurd cc

area_failed : (d : Directed) → status_after d ≡ AreaFault → d ≡ directed.AreaFault
area_failed directed.Done e = absurd cc
area_failed directed.WriteFault e = absurd cc
area_failed directed.NoMemory e = absurd cc
area_failed directed.AreaFault e = refl
area_failed directed.NotTheLeader e = absurd cc
area_failed directed.TornBlock e = absurd cc

other_leader : (d : Directed) → status_after d ≡ NotTheLeader → (d ≡ directed.NotTheLeader) ⊎ (d ≡ directed.TornBlock)
other_leader directed.Done e = absurd cc
other_leader directed.WriteFault e = absurd cc
other_leader directed.NoMemory e = absurd cc
other_leader directed.AreaFault e = absurd cc
other_leader directed.NotTheLeader e = inl refl
other_leader directed.TornBlock e = inr refl

some_fault : (n : ℕ) → Rose 0 n → 0 < n
some_fault n rose = omega (arith, rose)

leader_cause : (a : Action) (x : Outside) (now : Option (List ℕ)) (counted : ℕ) (taken put : Option (List ℕ)) (sink_faults sink_later : ℕ) (r : ResourceArg) (g : Sizes) → a ≡ ReadLeader r g
    → Directs (ReadLeader r g) (x.disks r.path) now 0 counted taken put sink_faults sink_later directed.NotTheLeader → IsNotTheLeader (Some (Direct a)) x
leader_cause a x now counted taken put sink_faults sink_later r g is h =
    record {
      resource = r;
      geometry = g;
      asked = ap (λ b. Some (Direct b)) is;
      other = λ content told.
          leader_is_told.wrong r g content now 0 counted taken put sink_faults sink_later
          (subst (λ c. Directs (ReadLeader r g) c now 0 counted taken put sink_faults sink_later directed.NotTheLeader) told h);
    }

no_leader_cause : (a : Action) (x : Outside) (now : Option (List ℕ)) (counted : ℕ) (taken put : Option (List ℕ)) (sink_faults sink_later : ℕ) (r : ResourceArg) (g : Sizes) → a ≡ Upgrade r g
    → Directs (Upgrade r g) (x.disks r.path) now 0 counted taken put sink_faults sink_later directed.NotTheLeader → CantBeUpgraded (Some (Direct a)) x
no_leader_cause a x now counted taken put sink_faults sink_later r g is h =
    record {
      resource = r;
      geometry = g;
      asked = ap (λ b. Some (Direct b)) is;
      other = λ content told.
          upgrade_is_told.no_leader r g content now 0 counted taken put sink_faults sink_later
          (subst (λ c. Directs (Upgrade r g) c now 0 counted taken put sink_faults sink_later directed.NotTheLeader) told h);
    }

torn_cause : (a : Action) (x : Outside) (now : Option (List ℕ)) (counted : ℕ) (taken put : Option (List ℕ)) (sink_faults sink_later : ℕ) (r : ResourceArg) (g : Sizes) → a ≡ Upgrade r g
    → Directs (Upgrade r g) (x.disks r.path) now 0 counted taken put sink_faults sink_later directed.TornBlock → CantBeUpgraded (Some (Direct a)) x
torn_cause a x now counted taken put sink_faults sink_later r g is h =
    record {
      resource = r;
      geometry = g;
      asked = ap (λ b. Some (Direct b)) is;
      other = λ content told.
          upgrade_is_told.torn_block r g content now 0 counted taken put sink_faults sink_later
          (subst (λ c. Directs (Upgrade r g) c now 0 counted taken put sink_faults sink_later directed.TornBlock) told h);
    }

-- The action is done to the disk at its path.
acted_on : (a b : Action) (x y : Outside) (counted : ℕ) (d : Directed) → a ≡ b
    → Directs a (x.disks (path_of a)) (y.disks (path_of a)) 0 counted x.taken y.taken x.sink_faults y.sink_faults d
    → Directs b (x.disks (path_of b)) (y.disks (path_of b)) 0 counted x.taken y.taken x.sink_faults y.sink_faults d
acted_on a b x y counted d is h =
    subst (λ c. Directs c (x.disks (path_of c)) (y.disks (path_of c)) 0 counted x.taken y.taken x.sink_faults y.sink_faults d) is h

leader_caused : (a : Action) (x y : Outside) (s : Status) → (run : ActsOn a x.disks y.disks x.device_faults y.device_faults x.taken y.taken x.sink_faults y.sink_faults s)
    → run.ended ≡ directed.NotTheLeader → IsNotTheLeader (Some (Direct a)) x ⊎ CantBeUpgraded (Some (Direct a)) x
leader_caused a x y s run is =
    let h = subst (λ d. Directs a (x.disks (path_of a)) (y.disks (path_of a)) 0 run.counted x.taken y.taken x.sink_faults y.sink_faults d) is run.directs in
    let found : (r : ResourceArg) × (g : Sizes) × ((a ≡ ReadLeader r g) ⊎ (a ≡ Upgrade r g)) =
    leader_is_told.other a (x.disks (path_of a)) (y.disks (path_of a)) 0 run.counted x.taken y.taken x.sink_faults y.sink_faults h in
    elim found.2 [
      | inl look ↦ inl (leader_cause a x (y.disks found.0.path) run.counted x.taken y.taken x.sink_faults y.sink_faults found.0 found.1 look
          (acted_on a (ReadLeader found.0 found.1) x y run.counted directed.NotTheLeader look h))
      | inr upgrade ↦ inr (no_leader_cause a x (y.disks found.0.path) run.counted x.taken y.taken x.sink_faults y.sink_faults found.0 found.1 upgrade
          (acted_on a (Upgrade found.0 found.1) x y run.counted directed.NotTheLeader upgrade h))
    ]

torn_caused : (a : Action) (x y : Outside) (s : Status) → (run : ActsOn a x.disks y.disks x.device_faults y.device_faults x.taken y.taken x.sink_faults y.sink_faults s)
    → run.ended ≡ directed.TornBlock → CantBeUpgraded (Some (Direct a)) x
torn_caused a x y s run is =
    let h = subst (λ d. Directs a (x.disks (path_of a)) (y.disks (path_of a)) 0 run.counted x.taken y.taken x.sink_faults y.sink_faults d) is run.directs in
    let found : (r : ResourceArg) × (g : Sizes) × (a ≡ Upgrade r g) =
    upgrade_is_told.other a (x.disks (path_of a)) (y.disks (path_of a)) 0 run.counted x.taken y.taken x.sink_faults y.sink_faults h in
    torn_cause a x (y.disks found.0.path) run.counted x.taken y.taken x.sink_faults y.sink_faults found.0 found.1 found.2
    (acted_on a (Upgrade found.0 found.1) x y run.counted directed.TornBlock found.2 h)

other_caused : (a : Action) (x y : Outside) (s : Status) → (run : ActsOn a x.disks y.disks x.device_faults y.device_faults x.taken y.taken x.sink_faults y.sink_faults s)
    → (run.ended ≡ directed.NotTheLeader) ⊎ (run.ended ≡ directed.TornBlock) → IsNotTheLeader (Some (Direct a)) x ⊎ CantBeUpgraded (Some (Direct a)) x
other_caused a x y s run (inl is) = leader_caused a x y s run is
other_caused a x y s run (inr is) = inr (torn_caused a x y s run is)

-- Words that ask for an action have its causes, if they have that of a look at another leader.
acted_caused : (w : Option Words) (a : Action) (x y : Outside) (s : Status) → IsDirect w
    → (run : ActsOn a x.disks y.disks x.device_faults y.device_faults x.taken y.taken x.sink_faults y.sink_faults s)
    → ((run.ended ≡ directed.NotTheLeader) ⊎ (run.ended ≡ directed.TornBlock) → IsNotTheLeader w x ⊎ CantBeUpgraded w x) → HasItsCause w x y s
acted_caused w a x y s asked run looked =
    record {
      refused = λ e. absurd (not_refused run.ended (sym run.status ∙ e));
      bad_words = λ e. absurd (not_bad run.ended (sym run.status ∙ e));
      read_fault = λ e. absurd (not_read run.ended (sym run.status ∙ e));
      write_fault = λ e. run.directs.write_fault (write_failed run.ended (sym run.status ∙ e));
      area_fault = λ e. inl (inl asked, run.count.rose (some_fault run.counted (run.directs.area_fault (area_failed run.ended (sym run.status ∙ e)))));
      not_the_leader = λ e. looked (other_leader run.ended (sym run.status ∙ e));
      differs = λ e. absurd (not_differing run.ended (sym run.status ∙ e));
    }

direct_caused : (a : Action) (x y : Outside) (s : Status) → ActsOn a x.disks y.disks x.device_faults y.device_faults x.taken y.taken x.sink_faults y.sink_faults s
    → HasItsCause (Some (Direct a)) x y s
direct_caused a x y s run = acted_caused (Some (Direct a)) a x y s (inl (a, refl)) run (other_caused a x y s run)

-- A lockspace that is made has no leader that is looked at.
label_looks : (l : LockspaceArg) (g : Sizes) (t : TimingNumbers) (grace : ℕ) (x y : Outside) (s : Status)
    → (run : ActsOn (InitLabelled l g t grace) x.disks y.disks x.device_faults y.device_faults x.taken y.taken x.sink_faults y.sink_faults s)
    → (run.ended ≡ directed.NotTheLeader) ⊎ (run.ended ≡ directed.TornBlock) → ⊥
label_looks l g t grace x y s run (inl is) =
    let a = InitLabelled l g t grace in
    let h = subst (λ d. Directs a (x.disks (path_of a)) (y.disks (path_of a)) 0 run.counted x.taken y.taken x.sink_faults y.sink_faults d) is run.directs in
    let found : (r : ResourceArg) × (g : Sizes) × ((a ≡ ReadLeader r g) ⊎ (a ≡ Upgrade r g)) =
    leader_is_told.other a (x.disks (path_of a)) (y.disks (path_of a)) 0 run.counted x.taken y.taken x.sink_faults y.sink_faults h in
    elim found.2 [ inl look ↦ absurd cc | inr upgrade ↦ absurd cc ]
label_looks l g t grace x y s run (inr is) =
    let a = InitLabelled l g t grace in
    let h = subst (λ d. Directs a (x.disks (path_of a)) (y.disks (path_of a)) 0 run.counted x.taken y.taken x.sink_faults y.sink_faults d) is run.directs in
    let found : (r : ResourceArg) × (g : Sizes) × (a ≡ Upgrade r g) =
    upgrade_is_told.other a (x.disks (path_of a)) (y.disks (path_of a)) 0 run.counted x.taken y.taken x.sink_faults y.sink_faults h in
    let upgrade : InitLabelled l g t grace ≡ Upgrade found.0 found.1 = found.2 in absurd cc

label_caused : (l : LockspaceArg) (g : Sizes) (t : TimingNumbers) (grace : ℕ) (x y : Outside) (s : Status)
    → ActsOn (InitLabelled l g t grace) x.disks y.disks x.device_faults y.device_faults x.taken y.taken x.sink_faults y.sink_faults s → HasItsCause (Some (Label l g t grace)) x y s
label_caused l g t grace x y s run =
    acted_caused (Some (Label l g t grace)) (InitLabelled l g t grace) x y s (inr (l, g, t, grace, refl)) run (λ looked. absurd (label_looks l g t grace x y s run looked))

-- ---- machines that run

live_has_cause : {A P : Type 0} (tellers : Tellers A P) (folder : List ℕ) (m : Manner) (x y : Outside) (s : Status) → RunsLive tellers folder m x y s → HasItsCause (Some (Live folder m.anew m.keeps m.events)) x y s
live_has_cause tellers folder m x y s run =
    let why = live_caused tellers folder m x y s run in
    record {
      refused = λ e. inr (inl (folder, m, refl));
      bad_words = λ e. absurd (not_bad_live run.ended (sym run.status ∙ e));
      read_fault = λ e. (inr (inl (folder, m, refl)), why.read e);
      write_fault = why.written;
      area_fault = λ e. inl (inr (folder, m, refl), why.area e);
      not_the_leader = λ e. absurd (not_a_look run.ended (sym run.status ∙ e));
      differs = λ e. inl ((folder, m, refl), why.differs e);
    }

own_has_cause : {A P : Type 0} (tellers : Tellers A P) (folder : List ℕ) (watchdog : Option (List ℕ)) (m : OwnManner) (x y : Outside) (s : Status) → RunsOwn tellers folder m x y s
    → HasItsCause (Some (Own folder m.machine watchdog m.syncs m.keeps m.events)) x y s
own_has_cause tellers folder watchdog m x y s run =
    let why = own_caused tellers folder m x y s run in
    record {
      refused = λ e. inr (inr (folder, watchdog, m, refl));
      bad_words = λ e. absurd (not_bad_live run.ended (sym run.status ∙ e));
      read_fault = λ e. (inr (inr (folder, watchdog, m, refl)), why.read e);
      write_fault = why.written;
      area_fault = λ e. inr ((folder, watchdog, m, refl), why.area e);
      not_the_leader = λ e. absurd (not_a_look run.ended (sym run.status ∙ e));
      differs = λ e. inr ((folder, watchdog, m, refl), why.differs e);
    }

-- ---- all words

pub statuses_have_causes : {A P : Type 0} (tellers : Tellers A P) → StatusesHaveCauses tellers
statuses_have_causes tellers None x y s h = bad_caused x y s h
statuses_have_causes tellers (Some Replay) x y s h = replay_caused x y s h
statuses_have_causes tellers (Some (Draw first last)) x y s h = draw_caused first last x y s h
statuses_have_causes tellers (Some (Generate seed hosts events paired)) x y s h = done_caused (Some (Generate seed hosts events paired)) x y _ s h.puts
statuses_have_causes tellers (Some (Schedule seed hosts events paired)) x y s h = schedule_caused seed hosts events paired x y s h
statuses_have_causes tellers (Some (Direct a)) x y s h = direct_caused a x y s h
statuses_have_causes tellers (Some (Label l g t grace)) x y s h = label_caused l g t grace x y s h
statuses_have_causes tellers (Some (Own folder machine watchdog syncs keeps events)) x y s h =
    own_has_cause tellers folder watchdog (record { machine = machine; syncs = syncs; keeps = keeps; events = events }) x y s h
statuses_have_causes tellers (Some (Live folder anew keeps events)) x y s h = live_has_cause tellers folder (record { anew = anew; keeps = keeps; events = events }) x y s h
statuses_have_causes tellers (Some Help) x y s h = done_caused (Some Help) x y HELP.now s h
statuses_have_causes tellers (Some Version) x y s h = done_caused (Some Version) x y VERSION.now s h

-- ---- where its cause stands

-- A look that is done found the leader.
leader_found : (r : ResourceArg) (g : Sizes) (content : List ℕ) (now : Option (List ℕ)) (counted : ℕ) (taken put : Option (List ℕ)) (sink_faults sink_later : ℕ) (d : Directed) (s : Status)
    → Directs (ReadLeader r g) (Some content) now 0 counted taken put sink_faults sink_later d → s ≡ status_after d → has_leader r g.sector content ≡ false
    → (s ≡ NotTheLeader) ⊎ (s ≡ AreaFault) ⊎ IsCutShort s
leader_found r g content now counted taken put sink_faults sink_later directed.Done s h is other =
    let right : IsTrue (has_leader r g.sector content) = leader_is_told.right r g content now 0 counted taken put sink_faults sink_later h in
    let no : false ≡ true = sym other ∙ right in absurd cc
leader_found r g content now counted taken put sink_faults sink_later directed.WriteFault s h is other = inr (inr (inl is))
leader_found r g content now counted taken put sink_faults sink_later directed.NoMemory s h is other = inr (inr (inr is))
leader_found r g content now counted taken put sink_faults sink_later directed.AreaFault s h is other = inr (inl is)
leader_found r g content now counted taken put sink_faults sink_later directed.NotTheLeader s h is other = inl is
leader_found r g content now counted taken put sink_faults sink_later directed.TornBlock s h is other = inl is

-- An upgrade that is done could be.
upgrade_found : (r : ResourceArg) (g : Sizes) (content : List ℕ) (now : Option (List ℕ)) (counted : ℕ) (taken put : Option (List ℕ)) (sink_faults sink_later : ℕ) (d : Directed) (s : Status)
    → Directs (Upgrade r g) (Some content) now 0 counted taken put sink_faults sink_later d → s ≡ status_after d → can_upgrade r g content ≡ false
    → (s ≡ NotTheLeader) ⊎ (s ≡ AreaFault) ⊎ IsCutShort s
upgrade_found r g content now counted taken put sink_faults sink_later directed.Done s h is other =
    let right : can_upgrade r g content ≡ true = upgrade_is_told.right r g content now 0 counted taken put sink_faults sink_later h in
    let no : false ≡ true = sym other ∙ right in absurd cc
upgrade_found r g content now counted taken put sink_faults sink_later directed.WriteFault s h is other = inr (inr (inl is))
upgrade_found r g content now counted taken put sink_faults sink_later directed.NoMemory s h is other = inr (inr (inr is))
upgrade_found r g content now counted taken put sink_faults sink_later directed.AreaFault s h is other = inr (inl is)
upgrade_found r g content now counted taken put sink_faults sink_later directed.NotTheLeader s h is other = inl is
upgrade_found r g content now counted taken put sink_faults sink_later directed.TornBlock s h is other = inl is

pub causes_have_statuses : {A P : Type 0} (tellers : Tellers A P) → CausesHaveStatuses tellers
causes_have_statuses tellers =
    record {
      bad_words = λ x y s put. put_status bad_words_text put.written BadWords s put.text_is;
      not_the_leader = λ r g content x y s run told other.
          leader_found r g content (y.disks r.path) run.counted x.taken y.taken x.sink_faults y.sink_faults run.ended s
          (subst (λ c. Directs (ReadLeader r g) c (y.disks r.path) 0 run.counted x.taken y.taken x.sink_faults y.sink_faults run.ended) told run.directs) run.status other;
      cant_be_upgraded = λ r g content x y s run told other.
          upgrade_found r g content (y.disks r.path) run.counted x.taken y.taken x.sink_faults y.sink_faults run.ended s
          (subst (λ c. Directs (Upgrade r g) c (y.disks r.path) 0 run.counted x.taken y.taken x.sink_faults y.sink_faults run.ended) told run.directs) run.status other;
    }

-- ---- accepted schedules

-- What was told of the source may have been all of it.
consumed : (source read : List ℕ) (after : Option (List ℕ)) → Consumes (Some source) after read → (ended : Bool) → (IsTrue ended → IsAtEnd after) → MayHaveBeen ended read source
consumed source read None reads ended at_end = absurd reads
consumed source read (Some rest) reads true at_end = reads ∙ ap (λ v. read ++ v) (at_end refl) ∙ append-nil read
consumed source read (Some rest) reads false at_end = (rest, reads)

told_source : (source : List ℕ) (x y : Outside) (s : Status) → x.left ≡ Some source
    → (run : Replays x.left y.left x.source_faults y.source_faults x.taken y.taken x.sink_faults y.sink_faults s) → MayHaveBeen run.ended run.read source
told_source source x y s told run = consumed source run.read y.left (subst (λ o. Consumes o y.left run.read) told run.reads) run.ended run.at_end

-- A whole report's status is the schedule's.
own_status : (source : List ℕ) (x y : Outside) (s : Status) → x.left ≡ Some source
    → Replays x.left y.left x.source_faults y.source_faults x.taken y.taken x.sink_faults y.sink_faults s → IsTrue (is_whole_status (code s))
    → code s ≡ replay_status whole_language source
own_status source x y s told run whole = run.own whole source (told_source source x y s told run)

zero_is_one : (n : ℕ) → 1 ≡ n → n ≡ 0 → ⊥
zero_is_one n one zero = omega (arith, one, zero)

ends_well : (source : List ℕ) (x y : Outside) (s : Status) → Replays x.left y.left x.source_faults y.source_faults x.taken y.taken x.sink_faults y.sink_faults s
    → x.left ≡ Some source → replay_status whole_language source ≡ 0 → NothingFailed x y → (s ≡ Done) ⊎ (s ≡ NoMemory)
ends_well source x y Done run told zero none = inl refl
ends_well source x y Refused run told zero none = absurd (zero_is_one (replay_status whole_language source) (own_status source x y Refused told run refl) zero)
ends_well source x y BadWords run told zero none = absurd (outside run.ended run.read run.written BadWords BadWords run.headline refl (λ h. let no : false ≡ true = h.0 in absurd cc))
ends_well source x y ReadFault run told zero none = absurd (none.source (run.read_fault refl))
ends_well source x y WriteFault run told zero none = absurd (none.sink (run.write_fault refl))
ends_well source x y NoMemory run told zero none = inr refl
ends_well source x y AreaFault run told zero none = absurd (outside run.ended run.read run.written AreaFault AreaFault run.headline refl (λ h. let no : false ≡ true = h.0 in absurd cc))
ends_well source x y NotTheLeader run told zero none = absurd (outside run.ended run.read run.written NotTheLeader NotTheLeader run.headline refl (λ h. let no : false ≡ true = h.0 in absurd cc))
ends_well source x y Differs run told zero none = absurd (outside run.ended run.read run.written Differs Differs run.headline refl (λ h. let no : false ≡ true = h.0 in absurd cc))

ends_at_zero : (source : List ℕ) (x y : Outside) (s : Status) → Replays x.left y.left x.source_faults y.source_faults x.taken y.taken x.sink_faults y.sink_faults s
    → x.left ≡ Some source → s ≡ Done → replay_status whole_language source ≡ 0
ends_at_zero source x y s run told done =
    sym (own_status source x y s told run (ap (λ t. is_whole_status (code t)) done)) ∙ ap code done

pub accepted_schedules_end_well : {A P : Type 0} (tellers : Tellers A P) → AcceptedSchedulesEndWell tellers
accepted_schedules_end_well tellers =
    record {
      well = λ source x y s run told accepted none. ends_well source x y s run told (accepted_runs.well whole_language whole_headers source accepted) none;
      only = λ source x y s run told done. accepted_runs.only whole_language whole_headers source (ends_at_zero source x y s run told done);
    }

-- ---- and others

ends_refused : (source : List ℕ) (x y : Outside) (s : Status) → Replays x.left y.left x.source_faults y.source_faults x.taken y.taken x.sink_faults y.sink_faults s
    → x.left ≡ Some source → (replay_status whole_language source ≡ 0 → ⊥) → NothingFailed x y → (s ≡ Refused) ⊎ (s ≡ NoMemory)
ends_refused source x y Done run told other none = absurd (other (sym (own_status source x y Done told run refl)))
ends_refused source x y Refused run told other none = inl refl
ends_refused source x y BadWords run told other none = absurd (outside run.ended run.read run.written BadWords BadWords run.headline refl (λ h. let no : false ≡ true = h.0 in absurd cc))
ends_refused source x y ReadFault run told other none = absurd (none.source (run.read_fault refl))
ends_refused source x y WriteFault run told other none = absurd (none.sink (run.write_fault refl))
ends_refused source x y NoMemory run told other none = inr refl
ends_refused source x y AreaFault run told other none = absurd (outside run.ended run.read run.written AreaFault AreaFault run.headline refl (λ h. let no : false ≡ true = h.0 in absurd cc))
ends_refused source x y NotTheLeader run told other none = absurd (outside run.ended run.read run.written NotTheLeader NotTheLeader run.headline refl (λ h. let no : false ≡ true = h.0 in absurd cc))
ends_refused source x y Differs run told other none = absurd (outside run.ended run.read run.written Differs Differs run.headline refl (λ h. let no : false ≡ true = h.0 in absurd cc))

ends_at_one : (source : List ℕ) (x y : Outside) (s : Status) → Replays x.left y.left x.source_faults y.source_faults x.taken y.taken x.sink_faults y.sink_faults s
    → x.left ≡ Some source → s ≡ Refused → replay_status whole_language source ≡ 1
ends_at_one source x y s run told refused =
    sym (own_status source x y s told run (ap (λ t. is_whole_status (code t)) refused)) ∙ ap code refused

pub other_schedules_are_refused : {A P : Type 0} (tellers : Tellers A P) → OtherSchedulesAreRefused tellers
other_schedules_are_refused tellers =
    record {
      well = λ source x y s run told other none. ends_refused source x y s run told (λ zero. other (accepted_runs.only whole_language whole_headers source zero)) none;
      only = λ source x y s run told refused accepted.
          zero_is_one (replay_status whole_language source) (sym (ends_at_one source x y s run told refused)) (accepted_runs.well whole_language whole_headers source accepted);
    }
