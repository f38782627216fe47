-- What is told of a value that was read: a refusal's text is none that begins with ok, so only a comparison tells that it is the one that was seen.
use Rattle.sl_run.specs.LockNames.{Lock}
use Rattle.sl_run.specs.Lvm.{Lvm, after_reading, comparison, is_seen}
use Rattle.sl_run.specs.declared.turn.LvmOut.TheVariants.{Reply as LineReply}
use Rattle.sl_trace.specs.EffectTexts.{is_ok_reply, reply_text, reply_words}
use Rattle.sl_trace.specs.declared.reply.Limited.TheVariants.{Children, Gen as GenLimit, Holders, Killpaths, Lockspaces, Lver as LverLimit, Mbal as MbalLimit, Resources, Seq as SeqLimit, Turn as TurnLimit}
use Rattle.sl_trace.specs.declared.reply.Reply.TheVariants.{Ahead, BadCommand as Misread, Busy, Done, Generation, Granted, Held, Hosts, IdHeld, IdLate, IdLost, IoFault, IoTimeout, Joined, Joining as StillJoining, Limit, NoOrphan, NoProcess, NoSession, NotHeld, Pending, Recovering, RequestOld, Rival, Sessions, Shared, SpawnFault, Started, TornBlock, TornDelta, TornLeader, Value, ValueSet, ValueTorn, WrongArea, WrongDelta}
use Rattle.sl_trace.specs.declared.reply.Reply.{Reply}
use Rattle.sl_headline.proofs.Volumes.SameValue.Values.{TellsValue}
use Rattle.sl_headline.proofs.Volumes.LockTurns.{is_value}
use Rattle.sl_words.proofs.CaseLaws.{false_is_true, some_value, true_is_false}
use Rattle.std.proofs.Common.{ap, arith, refl, sym, ◌∙◌}
use Rattle.std.specs.Prelude.{Bool, List, None, Option, Some, false, slice_get, true, [], ℕ, ◌∷◌, ◌≡◌}

abbrev first : List ℕ → Option ℕ
first [] = None
first (c ∷ cs) = Some c

differ : (a : ℕ) → Some a ≡ Some 111 → (a ≡ 111 → ⊥) → ⊥
differ a h apart = apart (some_value a 111 h)

pub told_apart : (r : Reply) → is_ok_reply r ≡ false → (rest : List ℕ) → reply_text r ≡ 111 ∷ rest → ⊥
unfolding reply_words
told_apart NoSession ok rest is = differ 78 (ap first is) (λ e. omega (arith, e))
told_apart StillJoining ok rest is = differ 74 (ap first is) (λ e. omega (arith, e))
told_apart (Recovering t) ok rest is = differ 82 (ap first is) (λ e. omega (arith, e))
told_apart (IdHeld a b) ok rest is = differ 73 (ap first is) (λ e. omega (arith, e))
told_apart (IdLost a b) ok rest is = differ 73 (ap first is) (λ e. omega (arith, e))
told_apart (IdLate a b) ok rest is = differ 73 (ap first is) (λ e. omega (arith, e))
told_apart TornDelta ok rest is = differ 84 (ap first is) (λ e. omega (arith, e))
told_apart TornLeader ok rest is = differ 84 (ap first is) (λ e. omega (arith, e))
told_apart (TornBlock a) ok rest is = differ 84 (ap first is) (λ e. omega (arith, e))
told_apart (Held a b) ok rest is = differ 72 (ap first is) (λ e. omega (arith, e))
told_apart (Shared a) ok rest is = differ 83 (ap first is) (λ e. omega (arith, e))
told_apart (Rival a b) ok rest is = differ 82 (ap first is) (λ e. omega (arith, e))
told_apart (Ahead a b) ok rest is = differ 65 (ap first is) (λ e. omega (arith, e))
told_apart (IoTimeout a b c) ok rest is = differ 73 (ap first is) (λ e. omega (arith, e))
told_apart (IoFault a) ok rest is = differ 73 (ap first is) (λ e. omega (arith, e))
told_apart (Pending a) ok rest is = differ 80 (ap first is) (λ e. omega (arith, e))
told_apart (Busy a) ok rest is = differ 66 (ap first is) (λ e. omega (arith, e))
told_apart NoOrphan ok rest is = differ 78 (ap first is) (λ e. omega (arith, e))
told_apart NotHeld ok rest is = differ 78 (ap first is) (λ e. omega (arith, e))
told_apart SpawnFault ok rest is = differ 83 (ap first is) (λ e. omega (arith, e))
told_apart ValueTorn ok rest is = differ 86 (ap first is) (λ e. omega (arith, e))
told_apart (Misread a) ok rest is = differ 66 (ap first is) (λ e. omega (arith, e))
told_apart (Limit Lockspaces) ok rest is = differ 76 (ap first is) (λ e. omega (arith, e))
told_apart (Limit Resources) ok rest is = differ 76 (ap first is) (λ e. omega (arith, e))
told_apart (Limit Holders) ok rest is = differ 76 (ap first is) (λ e. omega (arith, e))
told_apart (Limit Children) ok rest is = differ 76 (ap first is) (λ e. omega (arith, e))
told_apart (Limit Killpaths) ok rest is = differ 76 (ap first is) (λ e. omega (arith, e))
told_apart (Limit GenLimit) ok rest is = differ 76 (ap first is) (λ e. omega (arith, e))
told_apart (Limit SeqLimit) ok rest is = differ 76 (ap first is) (λ e. omega (arith, e))
told_apart (Limit LverLimit) ok rest is = differ 76 (ap first is) (λ e. omega (arith, e))
told_apart (Limit MbalLimit) ok rest is = differ 76 (ap first is) (λ e. omega (arith, e))
told_apart (Limit TurnLimit) ok rest is = differ 76 (ap first is) (λ e. omega (arith, e))
told_apart (RequestOld a b) ok rest is = differ 82 (ap first is) (λ e. omega (arith, e))
told_apart (WrongArea a b c) ok rest is = differ 87 (ap first is) (λ e. omega (arith, e))
told_apart (WrongDelta a b) ok rest is = differ 87 (ap first is) (λ e. omega (arith, e))
told_apart (NoProcess a) ok rest is = differ 78 (ap first is) (λ e. omega (arith, e))
told_apart (Joined a) ok rest is = differ 74 (ap first is) (λ e. omega (arith, e))
told_apart Done ok rest is = false_is_true (sym ok)
told_apart (Generation a) ok rest is = false_is_true (sym ok)
told_apart (Granted a) ok rest is = false_is_true (sym ok)
told_apart (Started a b) ok rest is = false_is_true (sym ok)
told_apart (Value a b c) ok rest is = false_is_true (sym ok)
told_apart (ValueSet a b) ok rest is = false_is_true (sym ok)
told_apart (Hosts a) ok rest is = false_is_true (sym ok)
told_apart (Sessions a) ok rest is = false_is_true (sym ok)

-- ---- a comparison

line_value : (a b : List ℕ) → LineReply a ≡ LineReply b → a ≡ b
line_value a b h = cc

fourth : List ℕ → Option ℕ
fourth text = slice_get text 3

changed_not : comparison false ≡ comparison true → ⊥
unfolding fourth
changed_not h = apart 99 115 (some_value 99 115 (ap fourth h)) (λ e. omega (arith, e)) where
  apart : (a b : ℕ) → a ≡ b → (a ≡ b → ⊥) → ⊥
  apart a b e none = none e

same_by : (b : Bool) → comparison b ≡ comparison true → b ≡ true
same_by true h = refl
same_by false h = absurd (changed_not h)

-- The reply tells a value of the version that was seen.
pub record ReadSame (m : Lvm) (l : Lock) (r : Reply) : Type 0 where
  pub lver : ℕ
  pub seq : ℕ
  pub bytes : List ℕ
  pub says : r ≡ Value lver seq bytes
  pub seen : is_seen m l.group lver seq ≡ true

refused_not : (r : Reply) → is_ok_reply r ≡ false → LineReply (reply_text r) ≡ LineReply (comparison true) → ⊥
refused_not r refused h = told_apart r refused _ (line_value (reply_text r) (comparison true) h)

other_not : (v : Reply) (lver seq : ℕ) (bytes : List ℕ) → v ≡ Value lver seq bytes → is_value v ≡ false → ⊥
other_not v lver seq bytes is none = true_is_false (sym (ap is_value is) ∙ none)

pub told_same : (m : Lvm) (l : Lock) (r : Reply) → (is_ok_reply r ≡ true → TellsValue r) → (after_reading m l r).1 ≡ LineReply (comparison true) → ReadSame m l r
told_same m l (Value lver seq bytes) value h =
    record { lver = lver; seq = seq; bytes = bytes; says = refl; seen = same_by (is_seen m l.group lver seq) (line_value (comparison (is_seen m l.group lver seq)) (comparison true) h) }
told_same m l ValueTorn value h = absurd (changed_not (line_value (comparison false) (comparison true) h))
told_same m l NoSession value h = absurd (refused_not NoSession refl h)
told_same m l StillJoining value h = absurd (refused_not StillJoining refl h)
told_same m l (Recovering t) value h = absurd (refused_not (Recovering t) refl h)
told_same m l (IdHeld a b) value h = absurd (refused_not (IdHeld a b) refl h)
told_same m l (IdLost a b) value h = absurd (refused_not (IdLost a b) refl h)
told_same m l (IdLate a b) value h = absurd (refused_not (IdLate a b) refl h)
told_same m l TornDelta value h = absurd (refused_not TornDelta refl h)
told_same m l TornLeader value h = absurd (refused_not TornLeader refl h)
told_same m l (TornBlock a) value h = absurd (refused_not (TornBlock a) refl h)
told_same m l (Held a b) value h = absurd (refused_not (Held a b) refl h)
told_same m l (Shared a) value h = absurd (refused_not (Shared a) refl h)
told_same m l (Rival a b) value h = absurd (refused_not (Rival a b) refl h)
told_same m l (Ahead a b) value h = absurd (refused_not (Ahead a b) refl h)
told_same m l (IoTimeout a b c) value h = absurd (refused_not (IoTimeout a b c) refl h)
told_same m l (IoFault a) value h = absurd (refused_not (IoFault a) refl h)
told_same m l (Pending a) value h = absurd (refused_not (Pending a) refl h)
told_same m l (Busy a) value h = absurd (refused_not (Busy a) refl h)
told_same m l NoOrphan value h = absurd (refused_not NoOrphan refl h)
told_same m l NotHeld value h = absurd (refused_not NotHeld refl h)
told_same m l SpawnFault value h = absurd (refused_not SpawnFault refl h)
told_same m l (Misread a) value h = absurd (refused_not (Misread a) refl h)
told_same m l (Limit a) value h = absurd (refused_not (Limit a) refl h)
told_same m l (RequestOld a b) value h = absurd (refused_not (RequestOld a b) refl h)
told_same m l (WrongArea a b c) value h = absurd (refused_not (WrongArea a b c) refl h)
told_same m l (WrongDelta a b) value h = absurd (refused_not (WrongDelta a b) refl h)
told_same m l (NoProcess a) value h = absurd (refused_not (NoProcess a) refl h)
told_same m l (Joined a) value h = absurd (refused_not (Joined a) refl h)
told_same m l Done value h = absurd (let v = value refl in other_not Done v.0 v.1 v.2 v.3 refl)
told_same m l (Generation a) value h = absurd (let v = value refl in other_not (Generation a) v.0 v.1 v.2 v.3 refl)
told_same m l (Granted a) value h = absurd (let v = value refl in other_not (Granted a) v.0 v.1 v.2 v.3 refl)
told_same m l (Started a b) value h = absurd (let v = value refl in other_not (Started a b) v.0 v.1 v.2 v.3 refl)
told_same m l (ValueSet a b) value h = absurd (let v = value refl in other_not (ValueSet a b) v.0 v.1 v.2 v.3 refl)
told_same m l (Hosts a) value h = absurd (let v = value refl in other_not (Hosts a) v.0 v.1 v.2 v.3 refl)
told_same m l (Sessions a) value h = absurd (let v = value refl in other_not (Sessions a) v.0 v.1 v.2 v.3 refl)
