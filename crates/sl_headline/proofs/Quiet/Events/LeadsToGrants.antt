-- Along quiet events an acquire on its course stays on it until it is granted.
use Rattle.sl_headline.specs.Quiet.Events.AnswersShow.{IsGrantedThere}
use Rattle.sl_run.specs.EventChanges.{happens}
use Rattle.std.proofs.Common.{ap, inl, inr, refl, subst, sym}
use Rattle.sl_run.specs.Quiet.{StaysQuiet, QuietStep}
use Rattle.sl_run.specs.Worlds.{Program, world_with}
use Rattle.std.specs.Prelude.{List, None, Option, Some, ◌∷◌, ◌++◌, ◌≡◌, ◌⊎◌, []}
use Rattle.sl_run.specs.Safety.{LawfulRun, world_at}
use Rattle.sl_headline.specs.Quiet.Events.AreaGoesOn.{IsHeard, IsWellMade}
use Rattle.sl_run.specs.declared.header.Header.{Header}
use Rattle.sl_run.specs.Runs.{EachDaemon, Happening}
use Rattle.sl_headline.specs.Quiet.Events.CarriedStages.{Asked, OnCourse, Stage, stage_next}
use Rattle.std.proofs.lemmas.List.{append-nil, append_assoc}
use Rattle.sl_run_law.proofs.Front.RunsFromFronts.{fronts_are_lawful, run_after}
use Rattle.sl_headline.proofs.Quiet.Events.CourseGoesOn.{course_goes_on}
use Rattle.sl_headline.proofs.Quiet.Events.CourseComesOn.{course_comes_on}
use Rattle.sl_headline.proofs.Quiet.Events.CourseIsGranted.{course_is_granted}
use Rattle.sl_headline.specs.Quiet.Events.LeadsToGrants.{AreWellMade, Comes, CoursesLeadToGrants, Is_on_course, Was_granted}

one_earlier : (p : Program) (h : Header) (now : List Happening) (x : Happening) (xs : List Happening) (q : Asked) → Comes p h (now ++ x ∷ []) xs q → Comes p h now (x ∷ xs) q
one_earlier p h now x xs q (Is_on_course stage c) = Is_on_course stage (subst (λ ys. OnCourse (world_at p h ys) q stage) (append_assoc now (x ∷ []) xs) c)
one_earlier p h now x xs q (Was_granted front rest is g) = Was_granted (x ∷ front) rest (ap (λ ys. x ∷ ys) is) (subst (λ ys. IsGrantedThere (world_at p h ys) q) (append_assoc now (x ∷ []) front) g)

pub courses_lead_to_grants : CoursesLeadToGrants
courses_lead_to_grants p h now [] run well q stage line resource c quiet = Is_on_course stage (subst (λ ys. OnCourse (world_at p h ys) q stage) (sym (append-nil now)) c)
courses_lead_to_grants p h now (x ∷ xs) run well q stage line resource c quiet =
    by (course_goes_on p h now x lawful each q stage line resource c step) (λ s d. one_earlier p h now x xs q (courses_lead_to_grants p h (now ++ x ∷ []) xs run_on well_on q s line resource d quiet_on)) where
      on : (now ++ x ∷ []) ++ xs ≡ now ++ x ∷ xs
      on = append_assoc now (x ∷ []) xs

      run_on : LawfulRun p h ((now ++ x ∷ []) ++ xs)
      run_on = subst (λ ys. LawfulRun p h ys) (sym on) run

      well_on : AreWellMade p h ((now ++ x ∷ []) ++ xs)
      well_on = subst (λ ys. AreWellMade p h ys) (sym on) well

      lawful : LawfulRun p h (now ++ x ∷ [])
      lawful = fronts_are_lawful p h (now ++ x ∷ []) xs run_on

      each : EachDaemon IsWellMade (world_at p h (now ++ x ∷ []))
      each = well_on (now ++ x ∷ []) xs refl

      after : world_at p h (now ++ x ∷ []) ≡ happens (world_at p h now) x.0 x.1
      after = run_after (world_with p h) now (x ∷ [])

      step : QuietStep (world_at p h now) x (world_at p h (now ++ x ∷ [])) q.machine q.job q.resource q.shared q.process q.session.number
      step = subst (λ v. QuietStep (world_at p h now) x v q.machine q.job q.resource q.shared q.process q.session.number) (sym after) quiet.0

      quiet_on : StaysQuiet (world_at p h (now ++ x ∷ [])) xs q.machine q.job q.resource q.shared q.process q.session.number
      quiet_on = subst (λ v. StaysQuiet v xs q.machine q.job q.resource q.shared q.process q.session.number) (sym after) quiet.1

      heard_by : (k : IsHeard (world_at p h (now ++ x ∷ [])) q c.daemon (c.host).call.call.number) → (o : Option Stage) → stage_next q.shared stage ≡ o
          → ((s : Stage) → OnCourse (world_at p h (now ++ x ∷ [])) q s → Comes p h now (x ∷ xs) q) → Comes p h now (x ∷ xs) q
      heard_by k (Some next) to rest = rest next (course_comes_on p h now x lawful each q stage line resource c step k next to)
      heard_by k None to rest = Was_granted (x ∷ []) xs refl (course_is_granted p h now x lawful each q stage line resource c step k to)

      by : OnCourse (world_at p h (now ++ x ∷ [])) q stage ⊎ IsHeard (world_at p h (now ++ x ∷ [])) q c.daemon (c.host).call.call.number
          → ((s : Stage) → OnCourse (world_at p h (now ++ x ∷ [])) q s → Comes p h now (x ∷ xs) q) → Comes p h now (x ∷ xs) q
      by (inl stays) rest = rest stage stays
      by (inr k) rest = heard_by k (stage_next q.shared stage) refl rest
