-- What an entry that is due has made for jobs, after a trace of which it is known what stands behind its replies.
use Rattle.sl_due_facts.proofs.Acts.ActsTogether.{both, from_more}
use Rattle.sl_due_facts.proofs.Acts.PlainActs.{plain_acts}
use Rattle.sl_due_facts.proofs.Acts.StepsKeep.{Fixed, due_is_of, step_keeps}
use Rattle.sl_due_facts.proofs.Acts.TracesKeep.{due_is_seen}
use Rattle.sl_due_facts.specs.Acts.Acts.{Acts}
use Rattle.sl_due_facts.specs.Acts.KeptByEffects.{ByEffects, Plainly}
use Rattle.sl_due_facts.specs.Acts.TraceSoFar.{entry_of}
use Rattle.sl_due.specs.Due.{IsDue, due_step}
use Rattle.sl_due.specs.DueCommands.{carry_decision}
use Rattle.sl_due.specs.DueRecovery.{begin_recoveries}
use Rattle.sl_due.specs.Steps.{Step, begin_step}
use Rattle.sl_due_law.proofs.Causes.LooksAreKept.{KnowsLooks, looks_are_kept, looks_begin}
use Rattle.sl_due_law.proofs.Causes.MakingsAreKept.{KnowsCauses, makings_are_kept, makings_begin}
use Rattle.sl_due_facts.proofs.Jobs.LessIsKept.{to_less}
use Rattle.sl_due_law.proofs.Recovery.StopsBegin.{begun_says}
use Rattle.sl_due_law.proofs.LawfulTraces.AllIsKept.{all_begins, all_is_kept}
use Rattle.sl_due_law.specs.Causes.CauseFacts.{CauseFacts}
use Rattle.sl_due_law.specs.Causes.Makings.{LookedSoFar, MadeSoFar}
use Rattle.sl_due_law.specs.LawfulTraces.CarriedFacts.{Holds, Kept}
use Rattle.sl_words.proofs.Lists.{head_is}
use Rattle.sl_trace.specs.Traces.{FollowsTrace, Setting, Trace}
use Rattle.sl_trace.specs.declared.effects.Entry.{Entry}
use Rattle.std.proofs.Common.{subst, sym}
use Rattle.std.specs.Prelude.{◌≡◌}

-- The entry as a step.
abbrev pub step_of : Setting → Trace → Entry → Step
step_of st past e = record { setting = st; past = past; reading = e.reading; input = e.input; effects = e.effects }

-- ---- all that is carried through its step

abbrev pub OldCauses : Step → Type 0
OldCauses x = CauseFacts x.setting x.past

old_effects : ByEffects OldCauses
old_effects =
    record {
      ends = λ x e h. h;
      signals = λ x p s h. h;
      moves = λ x m h. h;
      grants = λ x g h. h;
      starts = λ x s h. h;
      replies = λ x j r h. h;
      calls = λ x s path p o op has h. h;
    }

old_plainly : Plainly OldCauses
unfolding carry_decision
old_plainly = record { effects = old_effects; inputs = λ x i wake bare h. h; begins = λ x text c n a wake bare says is h. h }

pub old_is_kept : Acts OldCauses OldCauses
old_is_kept = plain_acts OldCauses old_plainly

abbrev pub Making : Step → Type 0
Making x = KnowsCauses x × LookedSoFar x

making_is_kept : Acts Making Making
making_is_kept =
    to_less Making (λ x. Kept x × (OldCauses x × (MadeSoFar x × LookedSoFar x))) Making (λ x h. ((h.0, h.1.0, h.1.1.0), h.1.1.1))
    (both Making Kept (λ x. OldCauses x × (MadeSoFar x × LookedSoFar x)) (from_more Kept Making Kept (λ x h. h.0.0) all_is_kept)
    (both Making OldCauses (λ x. MadeSoFar x × LookedSoFar x) (from_more OldCauses Making OldCauses (λ x h. h.0.1) old_is_kept)
    (both Making MadeSoFar LookedSoFar (from_more KnowsCauses Making MadeSoFar (λ x h. h.0) makings_are_kept) (from_more KnowsLooks Making LookedSoFar (λ x h. (h.0.0.known.0, h.1)) looks_are_kept))))

making_begins : (st : Setting) (past : Trace) (e : Entry) → FollowsTrace st past e → Holds st past → CauseFacts st past → Making (begin_recoveries (begin_step st past e.reading))
making_begins st past e follows h w = (
  (all_begins st past e follows h, subst (λ y. OldCauses y) (sym (begun_says st past e.reading).is) w, makings_begin st past e.reading),
  looks_begin st past e.reading w.looked,
)

-- ---- at its end

pub record MadeIn (st : Setting) (past : Trace) (e : Entry) : Type 0 where
  pub makes : MadeSoFar (step_of st past e)
  pub looks : LookedSoFar (step_of st past e)

pub entry_makes : (st : Setting) (past : Trace) (e : Entry) → FollowsTrace st past e → IsDue st past e → Holds st past → CauseFacts st past → MadeIn st past e
entry_makes st past e follows due_one h w = at_end (due_step st past e.reading e.input) fixed.setting fixed.before entry done where
  done : Making (due_step st past e.reading e.input)
  done = step_keeps Making making_is_kept st past e.reading e.input follows.expected (making_begins st past e follows h w)

  fixed : Fixed st past e.reading (due_step st past e.reading e.input)
  fixed = due_is_of st past e.reading e.input

  entry : entry_of (due_step st past e.reading e.input) ≡ e
  entry = head_is (entry_of (due_step st past e.reading e.input)) e (due_step st past e.reading e.input).past past (due_is_seen st past e due_one)

  at_end : (y : Step) → y.setting ≡ st → y.past ≡ past → entry_of y ≡ e → Making y → MadeIn st past e
  at_end y setting before is k =
      subst (λ f. MadeIn st past f) is (subst (λ t. MadeIn st t (entry_of y)) before (subst (λ q. MadeIn q y.past (entry_of y)) setting (record { makes = k.0.2; looks = k.1 })))
