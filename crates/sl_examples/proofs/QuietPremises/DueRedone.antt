-- Where each daemon of a run's end did what is due: its trace is what is due made again, step by step; that is computed.
use Rattle.sl_area.specs.AreaSizes.{Sizes, layout_of, layout_with, program_digest}
use Rattle.sl_area.specs.AreaLayout.{is_base}
use Rattle.sl_command.proofs.CommandLaws.{reads_commands}
use Rattle.sl_due.specs.Due.{IsDue, IsHostTrace, due}
use Rattle.sl_examples.specs.CheapDigest.{cheap_digest, cheap_program}
use Rattle.sl_words.proofs.Lists.{contains_cases, contains_none, head_is, tail_is}
use Rattle.sl_run.specs.Headers.{IsHeader}
use Rattle.sl_run.specs.Lawful.{IsGiven, IsSetting}
use Rattle.sl_run.specs.Runs.{AfterEachFront, EachDaemon, Happening, daemons_of}
use Rattle.sl_run.specs.Safety.{LawfulRun, world_at}
use Rattle.sl_run.specs.Worlds.{Daemon, World, first_numbers, given_of, setting_of}
use Rattle.sl_text.specs.Names.{is_name}
use Rattle.sl_trace.specs.CommandForms.{IsCommand, IsLockspaceArg, IsResourceArg}
use Rattle.sl_trace.specs.declared.command.Command.TheVariants.{Acquire, AddLockspace, Convert, GetLvb, HostStatus, InqLockspace, Release, ReleaseOrphan, RemLockspace, Request, RunProgram, SetKillpath, SetLvb, Status, TakeOver}
use Rattle.sl_trace.specs.declared.command.Command.{Command}
use Rattle.sl_trace.specs.declared.command.LockspaceArg.{LockspaceArg}
use Rattle.sl_trace.specs.declared.command.ResourceArg.{ResourceArg}
use Rattle.sl_trace.specs.Traces.{EachEntry, FollowsTrace, Setting, Trace}
use Rattle.sl_trace.proofs.TraceFacts.{each_entry-front}
use Rattle.sl_trace.specs.declared.input.Given.{Given}
use Rattle.sl_headline.proofs.Volumes.EntriesAtFronts.{each_front}
use Rattle.sl_examples.proofs.Witness.HeaderSearch.{seek_header}
use Rattle.sl_examples.proofs.Witness.RunSearch.{cheap_is_digest}
use Rattle.sl_examples.proofs.Witness.ProofSearch.{found, seek_false, seek_le, seek_lt, seek_pairs, seek_true, ◌>>=◌}
use Rattle.sl_examples.specs.Witness.Witness.{witness_header}
use Rattle.sl_words.specs.Bounds.{moments}
use Rattle.std.proofs.Common.{inl, inr, refl, subst, sym}
use Rattle.std.specs.List.{AllByRecursion}
use Rattle.std.specs.Prelude.{AllPairs, Contains, IsFalse, IsTrue, List, Option, Some, bytes_eq, codes, filter_map, map, [], ℕ, ◌++◌, ◌<◌, ◌^◌, ◌∷◌, ◌≡◌}

-- ---- traces

-- The trace with each entry's effects as they are due.
abbrev pub redone : Setting → Trace → Trace
redone st [] = []
redone st (e ∷ es) = record { reading = e.reading; input = e.input; effects = due st (redone st es) e.reading e.input } ∷ redone st es

redone_is_due : (st : Setting) (es : Trace) → EachEntry (IsDue st) (redone st es)
redone_is_due st [] = tt
redone_is_due st (e ∷ es) = (refl, redone_is_due st es)

each_same : {A B : Type 0} (f g : A → B) (xs : List A) → map f xs ≡ map g xs → (x : A) → Contains xs x → f x ≡ g x
each_same f g [] same x has = absurd (contains_none x has)
each_same f g (y ∷ xs) same x has =
    elim (contains_cases y xs x has) as (λ z. f x ≡ g x) [
      | inl is ↦ subst (λ v. f v ≡ g v) is (head_is (f y) (g y) (map f xs) (map g xs) same)
      | inr more ↦ each_same f g xs (tail_is (f y) (g y) (map f xs) (map g xs) same) x more
    ]

-- ---- what daemons are made of

abbrev setting_on : ℕ → List ℕ → Setting
setting_on m name =
    setting_of cheap_program (layout_with cheap_digest witness_header.geometry) witness_header m name first_numbers (filter_map (given_of witness_header m) witness_header.sessions)

abbrev pub settings : List Setting
settings = setting_on 1 (codes "a") ∷ setting_on 2 (codes "b") ∷ []

abbrev seek_given : (st : Setting) (g : Given) → Option (IsGiven st g)
seek_given st g = do
  low ← seek_le 1 g.id
  high ← seek_le g.id st.layout.hosts
  base ← seek_true (is_base st.layout g.offset)
  renewed ← seek_lt g.renewed moments
  lockspace ← seek_true (is_name g.lockspace)
  Some (record { id = (low, high); base = base; renewed = renewed; lockspace = lockspace })

abbrev seek_each_given : (st : Setting) (gs : List Given) → Option (AllByRecursion (IsGiven st) gs)
seek_each_given st [] = Some tt
seek_each_given st (g ∷ gs) = do
  one ← seek_given st g
  more ← seek_each_given st gs
  Some (one, more)

abbrev Different : Given → Given → Type 0
Different a b = IsFalse (bytes_eq a.lockspace b.lockspace)

abbrev seek_different : (gs : List Given) → Option (AllPairs Different gs)
seek_different gs = seek_pairs Different (λ a b. seek_false (bytes_eq a.lockspace b.lockspace)) gs

-- What a command may name is the same with another digest.
module _ (d e : List ℕ → List ℕ) (s : Sizes) where
  lockspace_as : (a : LockspaceArg) → IsLockspaceArg (layout_with d s) a → IsLockspaceArg (layout_with e s) a
  lockspace_as a h = record { name = h.name; host = h.host; disk = h.disk; base = h.base }

  resource_as : (r : ResourceArg) → IsResourceArg (layout_with d s) r → IsResourceArg (layout_with e s) r
  resource_as r h = record { space = h.space; named = h.named; disk = h.disk; base = h.base }

  command_as : (c : Command) → IsCommand (layout_with d s) c → IsCommand (layout_with e s) c
  command_as (AddLockspace a) h = lockspace_as a h
  command_as (RemLockspace a) h = lockspace_as a h
  command_as (InqLockspace a) h = lockspace_as a h
  command_as (HostStatus a) h = lockspace_as a h
  command_as (Acquire r shared p persistent) h = (resource_as r h.0, h.1)
  command_as (TakeOver r shared p persistent) h = (resource_as r h.0, h.1)
  command_as (Release r p) h = (resource_as r h.0, h.1)
  command_as (ReleaseOrphan r) h = resource_as r h
  command_as (Convert r shared p) h = (resource_as r h.0, h.1)
  command_as (RunProgram r shared path) h = (resource_as r h.0, h.1)
  command_as (Request r lver force) h = (resource_as r h.0, h.1)
  command_as (GetLvb r p) h = (resource_as r h.0, h.1)
  command_as (SetLvb r p bytes) h = (resource_as r h.0, h.1, h.2)
  command_as (SetKillpath p path) h = h
  command_as Status h = tt

header : IsHeader witness_header
header = found (seek_header witness_header) refl

few : witness_header.geometry.hosts < 2 ^ 64
few = found (seek_lt witness_header.geometry.hosts (2 ^ 64)) refl

is_setting : (m : ℕ) (name : List ℕ) → IsTrue (is_name name) → AllByRecursion (IsGiven (setting_on m name)) (setting_on m name).given → AllPairs Different (setting_on m name).given
    → IsSetting (setting_on m name)
is_setting m name named each different =
    record {
      timing = header.timing;
      layout = (witness_header.geometry, header.geometry, refl);
      digest = cheap_is_digest;
      name = named;
      reads = λ text c h. command_as program_digest cheap_digest witness_header.geometry c ((reads_commands (layout_of witness_header.geometry) few text c).0 h).0;
      each = each;
      different = different;
    }

are_settings : AllByRecursion IsSetting settings
are_settings =
    let a : Setting = setting_on 1 (codes "a") in
    let b : Setting = setting_on 2 (codes "b") in (
      is_setting 1 (codes "a") refl (found (seek_each_given a a.given) refl) (found (seek_different a.given) refl),
      (is_setting 2 (codes "b") refl (found (seek_each_given b b.given) refl) (found (seek_different b.given) refl), tt),
    )

each_is : (ds : List Daemon) → AllByRecursion IsSetting (map (λ d. d.setting) ds) → (d : Daemon) → Contains ds d → IsSetting d.setting
each_is [] all d has = absurd (contains_none d has)
each_is (c ∷ ds) all d has =
    elim (contains_cases c ds d has) as (λ z. IsSetting d.setting) [ inl is ↦ subst (λ (v : Daemon). IsSetting v.setting) is all.0 | inr more ↦ each_is ds all.1 d more ]

-- ---- runs

abbrev IsMade : Setting → Trace → Type 0
IsMade st es = IsSetting st × IsHostTrace st es

made_front : (st : Setting) (newer es : Trace) → IsMade st (newer ++ es) → IsMade st es
made_front st newer es h = (h.0, (each_entry-front (FollowsTrace st) newer es h.1.0, each_entry-front (IsDue st) newer es h.1.1))

-- What is made again is the same.
abbrev pub IsRedone : World → Type 0
IsRedone w = map (λ (d : Daemon). redone d.setting d.trace) (daemons_of w) ≡ map (λ (d : Daemon). d.trace) (daemons_of w)

abbrev pub IsSet : World → Type 0
IsSet w = map (λ (d : Daemon). d.setting) (daemons_of w) ≡ settings

pub made_by : (xs : List Happening) → LawfulRun cheap_program witness_header xs → IsRedone (world_at cheap_program witness_header xs) → IsSet (world_at cheap_program witness_header xs)
    → AfterEachFront xs (λ now. EachDaemon IsMade (world_at cheap_program witness_header now))
made_by xs run same set now rest is =
    each_front IsMade made_front cheap_program witness_header now rest (subst (λ ys. LawfulRun cheap_program witness_header ys) is run).is_run
    (subst (λ ys. EachDaemon IsMade (world_at cheap_program witness_header ys)) is in_the_end) where
      w : World
      w = world_at cheap_program witness_header xs

      in_the_end : EachDaemon IsMade w
      in_the_end d has = (
        each_is (daemons_of w) (subst (AllByRecursion IsSetting) (sym set) are_settings) d has,
        (
          (run.lawful d has).is_trace,
          subst (λ es. EachEntry (IsDue d.setting) es) (each_same (λ (e : Daemon). redone e.setting e.trace) (λ (e : Daemon). e.trace) (daemons_of w) same d has) (redone_is_due d.setting d.trace),
        ),
      )
