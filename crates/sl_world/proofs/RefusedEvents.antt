-- An event that is refused: the answer says why.
use Rattle.sl_run.specs.declared.event.Refusal.{Refusal}
use Rattle.sl_world.specs.declared.apply.ApplyError.TheVariants.{OutOfMemory, Refused}
use Rattle.sl_world.specs.declared.apply.ApplyError.{ApplyError}
use Rattle.sl_words.proofs.CaseLaws.{none_some, some_value}
use Rattle.std.proofs.Common.{ap, inl, sym, ◌∙◌}
use Rattle.std.specs.Prelude.{Err, None, Ok, Option, Result, Some, ◌≡◌, ◌⊎◌}

abbrev pub refused_by : (A : Type 0) → Refusal → Result A ApplyError
refused_by A r = Err (Refused r)

abbrev reason_in : {A : Type 0} → Refusal → Result A ApplyError → Refusal
reason_in d (Ok x) = d
reason_in d (Err OutOfMemory) = d
reason_in d (Err (Refused r)) = r

-- The reason that is given is the one that there is.
pub is_refused : {X : Type 0} (A : Type 0) (why r : Refusal) (o q : Option Refusal) → o ≡ Some why → q ≡ o → q ≡ Some r → (refused_by A why ≡ refused_by A r) ⊎ X
is_refused A why r o q gives same there = inl (ap (refused_by A) (some_value why r (sym gives ∙ sym same ∙ there)))

pub refuses : (A : Type 0) (why r : Refusal) (o q : Option Refusal) → o ≡ Some why → q ≡ o → refused_by A why ≡ refused_by A r → q ≡ Some r
refuses A why r o q gives same is = same ∙ gives ∙ ap Some (ap (reason_in why) is)

-- Where there is none, nothing refuses.
pub nothing_refuses : (r : Refusal) (o q : Option Refusal) → o ≡ None → q ≡ o → q ≡ Some r → ⊥
nothing_refuses r o q gives same there = none_some r (sym gives ∙ sym same ∙ there)
