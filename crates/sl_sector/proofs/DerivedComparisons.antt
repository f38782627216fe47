-- Where derived comparisons are true: of values that are one, and of no others. An enum's goes by its variants, so what is shown of each
-- variant's fields is shown of it; a search over all pairs of variants would not end.
use Rattle.sl_sector.specs.contracts.sector.BlockPartialEq.TheImpl.{ghosts as block}
use Rattle.sl_sector.specs.contracts.sector.DeltaRecPartialEq.TheImpl.{ghosts as delta}
use Rattle.sl_sector.specs.contracts.sector.LeaderPartialEq.TheImpl.{ghosts as leader}
use Rattle.sl_sector.specs.contracts.sector.PairBlockPartialEq.TheImpl.{ghosts as pair}
use Rattle.sl_sector.specs.contracts.sector.Rec.{enum as record_enum}
use Rattle.sl_sector.specs.contracts.sector.RecPartialEq.TheImpl.{ghosts as record_is}
use Rattle.sl_sector.specs.contracts.sector.RequestPartialEq.TheImpl.{ghosts as request}
use Rattle.sl_sector.specs.contracts.sector.ValueRecPartialEq.TheImpl.{ghosts as value}
use Rattle.sl_sector.specs.declared.sector.Block.{Block}
use Rattle.sl_sector.specs.declared.sector.DeltaRec.{DeltaRec}
use Rattle.sl_sector.specs.declared.sector.Leader.{Leader}
use Rattle.sl_sector.specs.declared.sector.PairBlock.{PairBlock}
use Rattle.sl_sector.specs.declared.sector.Rec.{Rec}
use Rattle.sl_sector.specs.declared.sector.Request.{Request}
use Rattle.sl_sector.specs.declared.sector.ValueRec.{ValueRec}
use Rattle.sl_words.proofs.CaseLaws.{false_is_true, none_some, some_value}
use Rattle.std.proofs.Common.{ap, inl, inr, refl, rules, subst, sym}
use Rattle.std.proofs.lemmas.Bool.Decides.{Decides-eqb}
use Rattle.std.specs.Bool.{Decides}
use Rattle.std.specs.Cmp.Lexicographic.{bytes_decides}
use Rattle.std.specs.Option.{option_eq}
use Rattle.std.specs.Prelude.{Bool, List, None, Option, Some, [], false, true, ℕ, ◌&&◌, ◌∷◌, ◌≡◌, ◌⊎◌}
use denote.Enum.Compared.{Each, by}
use denote.Enum.Declared.{Choice, Record, left_or, right_or, values_one}
use denote.Struct.Field.{Field}
use denote.Struct.Values.{Values}

abbrev OnLeft : {A B : Type 0} → A ⊎ B → Type 0
OnLeft (inl x) = Unit {0}
OnLeft (inr y) = ⊥

-- Each variant's comparison is true of fields that are one, and of no others.
abbrev AllTold : (Fss : List (List Field)) → Each Bool Fss → Type 0
AllTold [] each = Unit {0}
AllTold (Fs ∷ Fss) each = ((x y : Values Fs) → Decides (each.0 x y) (x ≡ y)) × AllTold Fss each.1

choices_told : (Fss : List (List Field)) (each : Each Bool Fss) → AllTold Fss each → (c d : Choice Fss) → Decides (by false false Fss each c d) (c ≡ d)
choices_told [] each all c d = absurd c
choices_told (Fs ∷ Fss) each all (inl x) (inl y) = let t = all.0 x y in (λ e. ap inl (t.0 e), λ p. t.1 (ap (left_or x) p))
choices_told (Fs ∷ Fss) each all (inl x) (inr d) = (λ e. absurd (false_is_true e), λ p. absurd (subst OnLeft p tt))
choices_told (Fs ∷ Fss) each all (inr c) (inl y) = (λ e. absurd (false_is_true e), λ p. absurd (subst OnLeft (sym p) tt))
choices_told (Fs ∷ Fss) each all (inr c) (inr d) = let t = choices_told Fss each.1 all.1 c d in (λ e. ap inr (t.0 e), λ p. t.1 (ap (right_or c) p))

pub told : (N : Record) (each : Each Bool N.parts) → AllTold N.parts each → (a b : N.D) → Decides (by false false N.parts each (N.as_values a) (N.as_values b)) (a ≡ b)
told N each all a b = let t = choices_told N.parts each all (N.as_values a) (N.as_values b) in (λ e. values_one N a b (t.0 e), λ p. t.1 (ap N.as_values p))

-- ---- parts: each comparison is shown true of values that are one, and of no others

pub none : (x y : Unit {0}) → Decides true (x ≡ y)
none x y = (λ e. refl, λ e. refl)

pub last : {A : Type 0} {E : A → A → Bool} → ((u v : A) → Decides (E u v) (u ≡ v)) → (x y : A × Unit {0}) → Decides (E x.0 y.0) (x ≡ y)
last f x y = let p = f x.0 y.0 in (λ e i. (p.0 e i, tt), λ e. p.1 (ap (λ z. z.0) e))

both : {A B : Type 0} (x y : A × B) (s t : Bool) → Decides s (x.0 ≡ y.0) → Decides t (x.1 ≡ y.1) → Decides (s && t) (x ≡ y)
both x y true true p q = (λ e i. (p.0 refl i, q.0 refl i), λ e. refl)
both x y true false p q = (λ e. absurd (false_is_true e), λ e. q.1 (ap (λ z. z.1) e))
both x y false t p q = (λ e. absurd (false_is_true e), λ e. p.1 (ap (λ z. z.0) e))

pub and_then : {A B : Type 0} {E : A → A → Bool} {F : B → B → Bool} → ((u v : A) → Decides (E u v) (u ≡ v)) → ((u v : B) → Decides (F u v) (u ≡ v))
    → (x y : A × B) → Decides (E x.0 y.0 && F x.1 y.1) (x ≡ y)
and_then {A} {B} {E} {F} f g x y = both x y (E x.0 y.0) (F x.1 y.1) (f x.0 y.0) (g x.1 y.1)

pub maybe : {A : Type 0} {E : A → A → Bool} → ((u v : A) → Decides (E u v) (u ≡ v)) → (a b : Option A) → Decides (option_eq E a b) (a ≡ b)
maybe f None None = (λ e. refl, λ e. refl)
maybe f None (Some y) = (λ e. absurd (false_is_true e), λ e. absurd (none_some y e))
maybe f (Some x) None = (λ e. absurd (false_is_true e), λ e. absurd (none_some x (sym e)))
maybe f (Some x) (Some y) = let p = f x y in (λ e. ap Some (p.0 e), λ e. p.1 (some_value x y e))

-- Of a record with many fields, by what lists them.
pub through : {K T : Type 0} {E : T → T → Bool} (f : K → T) → ((x y : K) → f x ≡ f y → x ≡ y) → ((u v : T) → Decides (E u v) (u ≡ v))
    → (a b : K) → Decides (E (f a) (f b)) (a ≡ b)
through f one t a b = let p = t (f a) (f b) in (λ e. one a b (p.0 e), λ e. p.1 (ap f e))

-- ---- records

delta_told : (a b : DeltaRec) → Decides (delta.eq a b) (a ≡ b)
delta_told a b = search rules

leader_told : (a b : Leader) → Decides (leader.eq a b) (a ≡ b)
leader_told a b = search rules

block_told : (a b : Block) → Decides (block.eq a b) (a ≡ b)
block_told a b = search rules

request_told : (a b : Request) → Decides (request.eq a b) (a ≡ b)
request_told a b = search rules

value_told : (a b : ValueRec) → Decides (value.eq a b) (a ≡ b)
value_told a b = search rules

abbrev pair_parts : PairBlock → Block × (ℕ × (List ℕ × (List ℕ × Unit {0})))
pair_parts p = (p.block, (p.turn, (p.lockspace, (p.resource, tt))))

pair_one : (a b : PairBlock) → pair_parts a ≡ pair_parts b → a ≡ b
pair_one a b e = λ i. record { block = (e i).0; turn = (e i).1.0; lockspace = (e i).1.1.0; resource = (e i).1.1.1.0 }

pair_told : (a b : PairBlock) → Decides (pair.eq a b) (a ≡ b)
pair_told a b = through pair_parts pair_one (and_then block_told (and_then Decides-eqb (and_then bytes_decides (last bytes_decides)))) a b

pub record_told : (a b : Rec) → Decides (record_is.eq a b) (a ≡ b)
record_told a b = told record_enum _ (last delta_told, (last leader_told, (last block_told, (last request_told, (last value_told, (last pair_told, (last leader_told, tt))))))) a b
