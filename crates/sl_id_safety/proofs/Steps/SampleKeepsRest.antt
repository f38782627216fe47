-- A read of a session that is sampled further: nothing else of the session's calls changes, and so nothing of its state but what its
-- deciding read and its verify read showed.
use Rattle.sl_id_safety.proofs.State.FindingFrames.{moved, own_mapped}
use Rattle.sl_id_safety.proofs.State.Frames.{claim_index, flying_of, free_landed_by, free_of, is_running, landed_as, landed_seq, open_while}
use Rattle.sl_id_safety.proofs.State.SectorFrames.{SameSector, sector_same}
use Rattle.sl_id_safety.specs.State.IdStates.{claim_may_land, deciding_sample, generation_above, generation_by, index_of, join_course, own_courses, runs_still, standing_of, verifying_sample}
use Rattle.sl_id_safety.proofs.Steps.FateChanges.{stood}
use Rattle.sl_ids.specs.State.{Session as IdSession}
use Rattle.sl_run.specs.EventChanges.{change_call, sampled_more}
use Rattle.sl_run.specs.Safety.{Found, SessionId, free_landed, has_write_in_flight, is_course_of, is_over, trace_of, was_reset}
use Rattle.sl_run.specs.Worlds.{Course, Sampling, World, history_of, is_landed, is_write_course, may_land}
use Rattle.sl_run_law.proofs.CourseLists.{changed_if}
use Rattle.sl_run_law.specs.Sample.Samples.{numbered_landing}
use Rattle.sl_trace.specs.Sessions.{calls_of, ended_after, free_write, is_join_call, joined_after, refused_after}
use Rattle.sl_trace.specs.Traces.{Submitted}
use Rattle.sl_trace.specs.declared.effects.JoinStep.TheVariants.{ClaimWrite, DecidingRead, VerifyRead}
use Rattle.sl_trace.specs.declared.effects.JoinStep.{JoinStep}
use Rattle.sl_run_law.specs.Watchdog.ActingTimes.{acting_stamp}
use Rattle.sl_words.specs.Words.{some_is}
use Rattle.std.proofs.Common.{ap, refl, sym, ◌∙◌}
use Rattle.std.specs.List.{list_any}
use Rattle.std.specs.Option.{option_map_or}
use Rattle.std.specs.Prelude.{Bool, List, None, Option, Some, cond, false, find, is_none, is_some, map, not, option_map, true, [], ℕ, ◌&&◌, ◌==◌, ◌||◌, ◌∷◌, ◌≡◌}

-- ---- one call sampled further

-- The call with this number sampled further; any other as it is.
abbrev pub turned : World → ℕ → ℕ → Course → Course
turned w n j c = changed_if (c.call.number == n) (sampled_more w j) c

-- All else of a call stays.
pub record KeepsRest (c d : Course) : Type 0 where
  pub call : d.call ≡ c.call
  pub daemon : d.daemon ≡ c.daemon
  pub made : d.made ≡ c.made
  pub fate : d.fate ≡ c.fate
  pub answered : d.answered ≡ c.answered

keeps_by : (w : World) (j : ℕ) (c : Course) (t : Bool) → KeepsRest c (changed_if t (sampled_more w j) c)
keeps_by w j c true = record { call = refl; daemon = refl; made = refl; fate = refl; answered = refl }
keeps_by w j c false = record { call = refl; daemon = refl; made = refl; fate = refl; answered = refl }

pub keeps_rest : (w : World) (n j : ℕ) (c : Course) → KeepsRest c (turned w n j c)
keeps_rest w n j c = keeps_by w j c (c.call.number == n)

-- ---- lists and options of them

found_if : (p : Course → Bool) (g : Course → Course) (c : Course) (cs : List Course) (t : Bool) → p (g c) ≡ t → find p (map g cs) ≡ option_map g (find p cs)
    → cond (p (g c)) (Some (g c)) (find p (map g cs)) ≡ option_map g (cond t (Some c) (find p cs))
found_if p g c cs true is rest = ap (λ b. cond b (Some (g c)) (find p (map g cs))) is
found_if p g c cs false is rest = ap (λ b. cond b (Some (g c)) (find p (map g cs))) is ∙ rest

find_mapped : (p : Course → Bool) (g : Course → Course) → ((c : Course) → p (g c) ≡ p c) → (cs : List Course) → find p (map g cs) ≡ option_map g (find p cs)
find_mapped p g same [] = refl
find_mapped p g same (c ∷ cs) = found_if p g c cs (p c) (same c) (find_mapped p g same cs)

any_mapped : (p : Course → Bool) (g : Course → Course) → ((c : Course) → p (g c) ≡ p c) → (cs : List Course) → list_any p (map g cs) ≡ list_any p cs
any_mapped p g same [] = refl
any_mapped p g same (c ∷ cs) = ap (λ b. b || list_any p (map g cs)) (same c) ∙ ap (λ b. p c || b) (any_mapped p g same cs)

number_mapped : (F : Course → ℕ) (g : Course → Course) → ((c : Course) → F (g c) ≡ F c) → (o : Option Course) → option_map_or F (option_map g o) 0 ≡ option_map_or F o 0
number_mapped F g same None = refl
number_mapped F g same (Some c) = same c

some_mapped : (F : Course → Bool) (g : Course → Course) → ((c : Course) → F (g c) ≡ F c) → (o : Option Course) → some_is F (option_map g o) ≡ some_is F o
some_mapped F g same None = refl
some_mapped F g same (Some c) = same c

-- ---- the session, with the call sampled further

abbrev pub sampled_found : World → ℕ → ℕ → Found → Found
sampled_found w n j f = moved (change_call n (sampled_more w j) f.machine) f

its_still : (w : World) (n j : ℕ) (i : SessionId) (c : Course) → is_course_of i (turned w n j c) ≡ is_course_of i c
its_still w n j i c =
    let k = keeps_rest w n j c in
    ap (λ d. d == i.daemon && (turned w n j c).call.session == i.number) k.daemon ∙ ap (λ x. c.daemon == i.daemon && x.session == i.number) k.call

own_sampled : (w : World) (n j : ℕ) (i : SessionId) (f : Found)
    → own_courses i (sampled_found w n j f).machine ≡ map (turned w n j) (own_courses i f.machine)
own_sampled w n j i f = own_mapped i (turned w n j) f.machine.calls (its_still w n j i)

pub join_sampled : (w : World) (n j : ℕ) (i : SessionId) (step : JoinStep) (f : Found)
    → join_course i step (sampled_found w n j f).machine ≡ option_map (turned w n j) (join_course i step f.machine)
join_sampled w n j i step f =
    ap (λ cs. find (λ c. is_join_call step c.call.purpose) cs) (own_sampled w n j i f)
    ∙ find_mapped (λ c. is_join_call step c.call.purpose) (turned w n j) (λ c. ap (λ x. is_join_call step x.purpose) (keeps_rest w n j c).call)
    (own_courses i f.machine)

-- ---- what stays of its flags

lands_still : (w : World) (n j : ℕ) (c : Course) → may_land (turned w n j c) ≡ may_land c
lands_still w n j c = by (c.call.number == n) where
  by : (t : Bool) → may_land (changed_if t (sampled_more w j) c) ≡ may_land c
  by true = refl
  by false = refl

claim_by : (w : World) (n j : ℕ) (b : Bool) (o : Option Course)
    → elim (option_map (turned w n j) o) as (λ z. Bool) [ None ↦ b | Some c ↦ may_land c ] ≡ elim o as (λ z. Bool) [ None ↦ b | Some c ↦ may_land c ]
claim_by w n j b None = refl
claim_by w n j b (Some c) = lands_still w n j c

claim_still : (w : World) (n j : ℕ) (i : SessionId) (f : Found) → claim_may_land i (sampled_found w n j f) ≡ claim_may_land i f
claim_still w n j i f =
    let b : Bool = runs_still f && is_none (refused_after (trace_of f) f.session) in
    ap (λ o. elim o as (λ z. Bool) [ None ↦ b | Some c ↦ may_land c ]) (join_sampled w n j i ClaimWrite f) ∙ claim_by w n j b (join_course i ClaimWrite f.machine)

open_still : (w : World) (n j : ℕ) (r : Bool) (c : Course)
    → (is_write_course (turned w n j c) && open_while r (turned w n j c)) ≡ (is_write_course c && open_while r c)
open_still w n j r c = by (c.call.number == n) where
  by : (t : Bool) → (is_write_course (changed_if t (sampled_more w j) c) && open_while r (changed_if t (sampled_more w j) c)) ≡ (is_write_course c && open_while r c)
  by true = refl
  by false = refl

flying_still : (w : World) (n j : ℕ) (i : SessionId) (f : Found) → has_write_in_flight i (sampled_found w n j f).machine ≡ has_write_in_flight i f.machine
flying_still w n j i f =
    let r : Bool = is_running i.daemon f.machine in
    flying_of i (sampled_found w n j f).machine ∙ ap (λ cs. list_any (λ x. is_write_course x && open_while r x) cs) (own_sampled w n j i f)
    ∙ any_mapped (λ x. is_write_course x && open_while r x) (turned w n j) (open_still w n j r) (own_courses i f.machine) ∙ sym (flying_of i f.machine)

landed_still : (w : World) (n j k : ℕ) (c : Course) → landed_as k (turned w n j c) ≡ landed_as k c
landed_still w n j k c = by (c.call.number == n) where
  by : (t : Bool) → landed_as k (changed_if t (sampled_more w j) c) ≡ landed_as k c
  by true = refl
  by false = refl

free_by : (w : World) (n j : ℕ) (cs : List Course) (o : Option Submitted) → free_landed_by (map (turned w n j) cs) o ≡ free_landed_by cs o
free_by w n j cs None = refl
free_by w n j cs (Some m) = any_mapped (landed_as m.call.number) (turned w n j) (landed_still w n j m.call.number) cs

free_still : (w : World) (n j : ℕ) (i : SessionId) (f : Found) → free_landed i (sampled_found w n j f) ≡ free_landed i f
free_still w n j i f =
    let o : Option Submitted = free_write (calls_of (trace_of f) f.session) in
    free_of i (sampled_found w n j f) ∙ ap (λ cs. free_landed_by cs o) (own_sampled w n j i f) ∙ free_by w n j (own_courses i f.machine) o ∙ sym (free_of i f)

pub over_still : (w : World) (n j : ℕ) (i : SessionId) (f : Found) → is_over i (sampled_found w n j f) ≡ is_over i f
over_still w n j i f =
    let ends : Bool = is_some (ended_after (trace_of f) f.session) || was_reset f in
    ap (λ b. b || ends && not (has_write_in_flight i (sampled_found w n j f).machine)) (free_still w n j i f)
    ∙ ap (λ b. free_landed i f || ends && not b) (flying_still w n j i f)

-- ---- where it stands, by what its deciding read and its verify read showed

-- Where it stands with these samples.
abbrev pub stands_with : World → List ℕ → ℕ → SessionId → Found → Option Sampling → Option Sampling → IdSession
stands_with w path offset i f decided verified =
    record {
      begun = true;
      decided = is_some decided;
      pending = is_some decided && claim_may_land i f;
      landed = some_is (λ c. is_landed c.fate) (join_course i ClaimWrite f.machine);
      verified = is_none f.session.job || is_some verified;
      joined = is_some (joined_after (trace_of f) f.session);
      over = is_over i f;
      base = option_map_or (λ x. x.index) decided 0;
      claim = claim_index w path offset i (join_course i ClaimWrite f.machine);
      name = f.daemon.setting.name;
      generation = generation_by w path offset decided;
      seq = landed_seq w path offset i f.session;
      registered = option_map_or (λ c. c.made.moment) (join_course i DecidingRead f.machine) 0;
      renewed = elim (joined_after (trace_of f) f.session) [
        | Some k ↦ option_map_or (λ s. s.moment) (acting_stamp f.daemon f.session) 0
        | None ↦ elim verified [ None ↦ 0 | Some x ↦ option_map_or (λ c. c.made.moment) (join_course i VerifyRead f.machine) 0 ]
      ];
    }

pub stands_as : (w : World) (path : List ℕ) (offset : ℕ) (i : SessionId) (f : Found)
    → standing_of w path offset i f ≡ stands_with w path offset i f (deciding_sample i f) (verifying_sample w i f)
stands_as w path offset i f = refl

generation_still : (w v : World) (path : List ℕ) (offset : ℕ) → SameSector w v path offset → (o : Option Sampling)
    → generation_by v path offset o ≡ generation_by w path offset o
generation_still w v path offset s None = refl
generation_still w v path offset s (Some x) =
    ap (λ ls. generation_above v.layout (numbered_landing ls x.index)) s.history
    ∙ ap (λ g. generation_above g (numbered_landing (history_of w path offset) x.index)) s.layout

made_same : (s : IdSession) → s.begun ≡ true → s ≡ stood s.decided s.pending s.landed s.verified s.joined s.over s.base s.claim s.name s.generation s.seq s.registered s.renewed
unfolding stood
made_same s h =
    ap (λ b. let x : IdSession = record {
      begun = b;
      decided = s.decided;
      pending = s.pending;
      landed = s.landed;
      verified = s.verified;
      joined = s.joined;
      over = s.over;
      base = s.base;
      claim = s.claim;
      name = s.name;
      generation = s.generation;
      seq = s.seq;
      registered = s.registered;
      renewed = s.renewed;
    } in x) h

-- Sessions with the same parts, but for some, are one.
pub same_parts : (s t : IdSession) → s.begun ≡ true → t.begun ≡ true → t.decided ≡ s.decided → t.pending ≡ s.pending → t.landed ≡ s.landed → t.verified ≡ s.verified
    → t.joined ≡ s.joined → t.over ≡ s.over → t.base ≡ s.base → t.claim ≡ s.claim → t.name ≡ s.name → t.generation ≡ s.generation → t.seq ≡ s.seq
    → t.registered ≡ s.registered → t.renewed ≡ s.renewed → t ≡ s
same_parts s t x y a b c d e f g h i j k l m =
    let each : stood t.decided t.pending t.landed t.verified t.joined t.over t.base t.claim t.name t.generation t.seq t.registered t.renewed
    ≡ stood s.decided s.pending s.landed s.verified s.joined s.over s.base s.claim s.name s.generation s.seq s.registered s.renewed = cc in
    made_same t y ∙ each ∙ sym (made_same s x)

made_still : (w : World) (n j : ℕ) (i : SessionId) (step : JoinStep) (f : Found)
    → option_map_or (λ c. c.made.moment) (join_course i step (sampled_found w n j f).machine) 0
    ≡ option_map_or (λ c. c.made.moment) (join_course i step f.machine) 0
made_still w n j i step f =
    ap (λ o. option_map_or (λ (c : Course). c.made.moment) o 0) (join_sampled w n j i step f)
    ∙ number_mapped (λ c. c.made.moment) (turned w n j) (λ c. ap (λ x. x.moment) (keeps_rest w n j c).made) (join_course i step f.machine)

renewed_by : (joined : Option ℕ) (acting : ℕ) (q : Option Sampling) (a b : ℕ) → a ≡ b
    → elim joined as (λ z. ℕ) [ Some k ↦ acting | None ↦ elim q as (λ z. ℕ) [ None ↦ 0 | Some x ↦ a ] ]
    ≡ elim joined as (λ z. ℕ) [ Some k ↦ acting | None ↦ elim q as (λ z. ℕ) [ None ↦ 0 | Some x ↦ b ] ]
renewed_by joined acting q a b h = ap (λ n. elim joined as (λ z. ℕ) [ Some k ↦ acting | None ↦ elim q as (λ z. ℕ) [ None ↦ 0 | Some x ↦ n ] ]) h

index_still : (w v : World) (path : List ℕ) (offset : ℕ) → SameSector w v path offset → (n j : ℕ) (i : SessionId) (f : Found)
    → claim_index v path offset i (join_course i ClaimWrite (sampled_found w n j f).machine) ≡ claim_index w path offset i (join_course i ClaimWrite f.machine)
index_still w v path offset s n j i f =
    ap (claim_index v path offset i) (join_sampled w n j i ClaimWrite f)
    ∙ number_mapped (λ c. index_of (i.machine, c.call.number) (history_of v path offset)) (turned w n j)
    (λ c. ap (λ x. index_of (i.machine, x.number) (history_of v path offset)) (keeps_rest w n j c).call) (join_course i ClaimWrite f.machine)
    ∙ (sector_same w v path offset s i f).claim

-- All else of its state stays.
pub stands_sampled : (w v : World) (path : List ℕ) (offset : ℕ) → SameSector w v path offset → (n j : ℕ) (i : SessionId) (f : Found)
    → standing_of v path offset i (sampled_found w n j f)
    ≡ stands_with w path offset i f (deciding_sample i (sampled_found w n j f)) (verifying_sample v i (sampled_found w n j f))
stands_sampled w v path offset s n j i f =
    let g : Found = sampled_found w n j f in
    same_parts (stands_with w path offset i f (deciding_sample i g) (verifying_sample v i g)) (standing_of v path offset i g) refl refl
    refl
    (ap (λ b. is_some (deciding_sample i g) && b) (claim_still w n j i f))
    (ap (λ o. some_is (λ (c : Course). is_landed c.fate) o) (join_sampled w n j i ClaimWrite f)
    ∙ some_mapped (λ c. is_landed c.fate) (turned w n j) (λ c. ap (λ x. is_landed x) (keeps_rest w n j c).fate) (join_course i ClaimWrite f.machine))
    refl refl
    (over_still w n j i f)
    refl
    (index_still w v path offset s n j i f)
    refl
    (generation_still w v path offset s (deciding_sample i g))
    (sector_same w v path offset s i f).seq
    (made_still w n j i DecidingRead f)
    (renewed_by (joined_after (trace_of f) f.session) (option_map_or (λ x. x.moment) (acting_stamp f.daemon f.session) 0) (verifying_sample v i g)
    _ _ (made_still w n j i VerifyRead f))
