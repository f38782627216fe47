-- The turn of the own block that a lease has been shown, from call to call of a quiet acquire.
use Rattle.sl_due_facts.proofs.Acts.Pairs.GivenByReads.{bytes_at}
use Rattle.sl_due_facts.proofs.Acts.Pairs.Records.{read_no_turn, written_no_turn, written_turn}
use Rattle.sl_area.specs.AreaSizes.{Layout}
use Rattle.sl_area.specs.AreaLayout.{blocks_part}
use Rattle.sl_area.specs.Pairs.{pair_read}
use Rattle.sl_headline.proofs.Quiet.Events.DecisionsAreCarriedOut.{NotFirst}
use Rattle.sl_headline.proofs.Quiet.Events.CourseLeads.{told_at, told_gives, told_ok}
use Rattle.sl_headline.specs.Quiet.Events.CarriedStages.{Asked, DaemonOnCourse, Frees_leader, IsAskedOf, IsCallAt, Reads_area, Reads_first, Reads_second, Sets_mode, Stage, Takes_leader, Writes_first, Writes_second, block_op, first_of_asked, leader_of_asked, op_at, second_of_asked, stage_next, step_at, third_of_asked, turn_at}
use Rattle.sl_headline.specs.Quiet.Events.CourseLeads.{ShowsAt, ShowsBlocks}
use Rattle.sl_sector.specs.declared.sector.Block.{Block}
use Rattle.sl_sector.specs.declared.sector.PairBlock.{PairBlock}
use Rattle.sl_trace.specs.LeaseDecisions.{LeasePlace, first_step, part_read, read_of_step}
use Rattle.sl_trace.specs.Leases.{base_turn, blocks_bytes, is_area_read, is_block_read, turn_written}
use Rattle.sl_trace.specs.Traces.{Setting, Submitted, Trace, answered_in, bytes_given, gave, is_answered_ok, is_ok_answer}
use Rattle.sl_trace.specs.declared.effects.Entry.{Entry}
use Rattle.sl_trace.specs.declared.effects.Op.TheVariants.{ReadSectors}
use Rattle.sl_trace.specs.declared.effects.Work.TheVariants.{ForJob}
use Rattle.sl_trace.specs.declared.input.Answer.TheVariants.{Read, Written}
use Rattle.sl_trace.specs.declared.input.Answer.{Answer}
use Rattle.sl_words.proofs.CaseLaws.{none_some, some_value}
use Rattle.sl_words.specs.Words.{choose}
use Rattle.std.proofs.Common.{ap, inl, inr, refl, subst, ◌∙◌}
use Rattle.std.specs.Prelude.{Bool, List, None, Option, Some, false, is_some, option_and_then, option_map, true, ℕ, ◌++◌, ◌+◌, ◌∷◌, ◌≡◌, ◌⊎◌}

-- ---- one more call

abbrev shown_by : Layout → ℕ → Submitted → Option ℕ → Bool → Option (List ℕ) → Option ℕ
shown_by g id m written paired bytes =
    elim written [
      | Some t ↦ choose (is_answered_ok m) t
      | None ↦ elim paired [ false ↦ None | true ↦ option_and_then (λ bs. option_map (λ (p : PairBlock). p.turn) (pair_read g bs id)) bytes ]
    ]

abbrev base_by : Layout → ℕ → List Submitted → Option ℕ → ℕ
base_by g id ms shown = elim shown [ Some t ↦ t | None ↦ base_turn g id ms ]

-- A block's write that was answered ok.
write_shows : (g : Layout) (id : ℕ) (m : Submitted) (ms : List Submitted) (turn : ℕ) → turn_written m ≡ Some turn → is_answered_ok m ≡ true → base_turn g id (m ∷ ms) ≡ turn
write_shows g id m ms turn is ok =
    ap (λ o. base_by g id ms (shown_by g id m o g.paired (blocks_bytes g m))) is ∙ ap (λ b. base_by g id ms (choose b turn)) ok

-- A read.
read_shows : (g : Layout) (id : ℕ) (m : Submitted) (ms : List Submitted) (bytes : List ℕ) (p : PairBlock) → g.paired ≡ true → turn_written m ≡ None → blocks_bytes g m ≡ Some bytes
    → pair_read g bytes id ≡ Some p → base_turn g id (m ∷ ms) ≡ p.turn
read_shows g id m ms bytes p paired none gives is =
    ap (λ o. base_by g id ms (shown_by g id m o g.paired (blocks_bytes g m))) none
    ∙ (ap (λ b. base_by g id ms (shown_by g id m None b (blocks_bytes g m))) paired
    ∙ (ap (λ o. base_by g id ms (shown_by g id m None true o)) gives ∙ ap (λ o. base_by g id ms (option_map (λ (q : PairBlock). q.turn) o)) is))

-- A leader's write shows none.
none_shown : (g : Layout) (id : ℕ) (m : Submitted) (ms : List Submitted) → g.paired ≡ true → turn_written m ≡ None → blocks_bytes g m ≡ None → base_turn g id (m ∷ ms) ≡ base_turn g id ms
none_shown g id m ms paired none gives =
    ap (λ o. base_by g id ms (shown_by g id m o g.paired (blocks_bytes g m))) none
    ∙ (ap (λ b. base_by g id ms (shown_by g id m None b (blocks_bytes g m))) paired ∙ ap (λ o. base_by g id ms (shown_by g id m None true o)) gives)

-- ---- stage by stage

-- What is known where the call's answer is seen.
record Seen (st : Setting) (past : Trace) (q : Asked) (stage : Stage) (c : DaemonOnCourse st past q stage) (answer : Answer) (told : Submitted) : Type 0 where
  paired : st.layout.paired ≡ true
  layout : q.same.place.layout ≡ st.layout
  at : IsCallAt q stage told
  ok : is_answered_ok told ≡ true
  gives : gave told ≡ bytes_given answer

-- A read shows the own block's turn.
shows_turn : (st : Setting) (past : Trace) (q : Asked) (stage : Stage) (c : DaemonOnCourse st past q stage) (answer : Answer) (told : Submitted) → Seen st past q stage c answer told → (bytes : List ℕ)
    → answer ≡ Read bytes → (n : ℕ) → op_at q stage ≡ ReadSectors n → is_some (read_of_step (first_step (step_at q stage))) ≡ true → (blocks : List Block) (turn : ℕ)
    → ShowsBlocks q (part_read q.same.place.layout bytes (first_step (step_at q stage))) blocks turn → base_turn st.layout q.session.id (told ∷ (c.older ++ q.before)) ≡ turn
shows_turn st past q stage c answer told k bytes is n reads some blocks turn shows =
    let own = shows.pair (ap (λ (g : Layout). g.paired) k.layout ∙ k.paired) in
    read_shows st.layout q.session.id told (c.older ++ q.before) (part_read st.layout bytes (first_step (step_at q stage))) own.0 k.paired (read_no_turn told n (k.at.op ∙ reads))
    (bytes_at st.layout told (ForJob q.job) (step_at q stage) bytes k.at.purpose some (k.gives ∙ ap (λ a. bytes_given a) is))
    (subst (λ g. pair_read g (part_read g bytes (first_step (step_at q stage))) q.session.id ≡ Some own.0) k.layout own.1)
    ∙ own.2

-- A write of a block shows the turn that it wrote.
shows_written : (st : Setting) (past : Trace) (q : Asked) (stage : Stage) (c : DaemonOnCourse st past q stage) (answer : Answer) (told : Submitted) → Seen st past q stage c answer told → (b : Block)
    → op_at q stage ≡ block_op q stage b → base_turn st.layout q.session.id (told ∷ (c.older ++ q.before)) ≡ turn_at q stage + 1
shows_written st past q stage c answer told k b op =
    write_shows st.layout q.session.id told (c.older ++ q.before) (turn_at q stage + 1)
    (written_turn q.same.place.layout (turn_at q stage + 1) q.session.lockspace q.resource.name told b (k.at.op ∙ op) ∙ ap (λ t. choose t (turn_at q stage + 1)) (ap (λ (g : Layout). g.paired) k.layout ∙ k.paired))
    k.ok

-- A leader's write leaves the one that was shown.
leaves_turn : (st : Setting) (past : Trace) (q : Asked) (c : DaemonOnCourse st past q Takes_leader) (answer : Answer) (told : Submitted) → Seen st past q Takes_leader c answer told → answer ≡ Written
    → base_turn st.layout q.session.id (told ∷ (c.older ++ q.before)) ≡ turn_at q Takes_leader
leaves_turn st past q c answer told k is =
    none_shown st.layout q.session.id told (c.older ++ q.before) k.paired (written_no_turn q.same.place.layout told (leader_of_asked q true) k.at.op)
    (ap (λ o. elim o as (λ z. Option (List ℕ)) [
      | None ↦ None
      | Some bytes ↦ elim (is_area_read told) as (λ z. Option (List ℕ)) [ true ↦ Some (blocks_part st.layout bytes) | false ↦ choose (is_block_read told) bytes ]
    ]) (k.gives ∙ ap (λ a. bytes_given a) is))
    ∙ by (c.turn k.paired) where
      by : (Takes_leader ≡ Reads_area) ⊎ (base_turn st.layout q.session.id (c.older ++ q.before) ≡ turn_at q Takes_leader) → base_turn st.layout q.session.id (c.older ++ q.before) ≡ turn_at q Takes_leader
      by (inl first) = absurd (subst (λ s. NotFirst s) first tt)
      by (inr shown) = shown

turn_by : (st : Setting) (past : Trace) (now : ℕ) (q : Asked) (stage next : Stage) → (c : DaemonOnCourse st past q stage) (answer : Answer) → ShowsAt st past now q c.call answer stage → (shared : Bool)
    → stage_next shared stage ≡ Some next → (told : Submitted) → Seen st past q stage c answer told → base_turn st.layout q.session.id (told ∷ (c.older ++ q.before)) ≡ turn_at q next
turn_by st past now q Reads_area next c answer (bytes, is, leader, shows) shared to told k =
    shows_turn st past q Reads_area c answer told k bytes is _ refl refl q.blocks (turn_at q Reads_area) shows ∙ ap (λ s. turn_at q s) (some_value Writes_first next to)
turn_by st past now q Writes_first next c answer shows shared to told k =
    shows_written st past q Writes_first c answer told k (first_of_asked q) refl ∙ ap (λ s. turn_at q s) (some_value Reads_first next to)
turn_by st past now q Reads_first next c answer (bytes, bs, is, shows, alone, none) shared to told k =
    shows_turn st past q Reads_first c answer told k bytes is _ refl refl bs (turn_at q Reads_first) shows ∙ ap (λ s. turn_at q s) (some_value Writes_second next to)
turn_by st past now q Writes_second next c answer shows shared to told k =
    shows_written st past q Writes_second c answer told k (second_of_asked q) refl ∙ ap (λ s. turn_at q s) (some_value Reads_second next to)
turn_by st past now q Reads_second next c answer (bytes, bs, is, shows, alone) shared to told k =
    shows_turn st past q Reads_second c answer told k bytes is _ refl refl bs (turn_at q Reads_second) shows ∙ ap (λ s. turn_at q s) (some_value Takes_leader next to)
turn_by st past now q Takes_leader next c answer shows false to told k = absurd (none_some next to)
turn_by st past now q Takes_leader next c answer shows true to told k = leaves_turn st past q c answer told k shows ∙ ap (λ s. turn_at q s) (some_value Sets_mode next to)
turn_by st past now q Sets_mode next c answer shows shared to told k =
    shows_written st past q Sets_mode c answer told k (third_of_asked q) refl ∙ ap (λ s. turn_at q s) (some_value Frees_leader next to)
turn_by st past now q Frees_leader next c answer shows shared to told k = absurd (none_some next to)

-- What the answer at a stage shows is ok.
shows_ok : (st : Setting) (past : Trace) (now : ℕ) (q : Asked) (call : Submitted) (answer : Answer) (stage : Stage) → ShowsAt st past now q call answer stage → is_ok_answer answer ≡ true
shows_ok st past now q call answer Reads_area (bytes, is, leader, shows) = ap (λ a. is_ok_answer a) is
shows_ok st past now q call answer Writes_first is = ap (λ a. is_ok_answer a) is
shows_ok st past now q call answer Reads_first (bytes, bs, is, shows, alone, none) = ap (λ a. is_ok_answer a) is
shows_ok st past now q call answer Writes_second is = ap (λ a. is_ok_answer a) is
shows_ok st past now q call answer Reads_second (bytes, bs, is, shows, alone) = ap (λ a. is_ok_answer a) is
shows_ok st past now q call answer Takes_leader is = ap (λ a. is_ok_answer a) is
shows_ok st past now q call answer Sets_mode is = ap (λ a. is_ok_answer a) is
shows_ok st past now q call answer Frees_leader is = ap (λ a. is_ok_answer a) is

-- The answer that leads to a stage shows the turn before it, whatever else its entry brings.
pub turn_after : (st : Setting) (past : Trace) (now : ℕ) (q : Asked) (stage next : Stage) → IsAskedOf st q → (c : DaemonOnCourse st past q stage) (answer : Answer) → ShowsAt st past now q c.call answer stage
    → (shared : Bool) → stage_next shared stage ≡ Some next → st.layout.paired ≡ true → (e : Entry)
    → base_turn st.layout q.session.id (answered_in past e (c.call).call.number answer c.call ∷ (c.older ++ q.before)) ≡ turn_at q next
turn_after st past now q stage next asked c answer shows shared to paired e =
    turn_by st past now q stage next c answer shows shared to (answered_in past e (c.call).call.number answer c.call)
    (record {
      paired = paired;
      layout = ap (λ (p : LeasePlace). p.layout) asked.place;
      at = told_at q stage past e (c.call).call.number answer c.call c.is;
      ok = told_ok past e c.call answer c.waits (shows_ok st past now q c.call answer stage shows);
      gives = told_gives past e c.call answer c.waits;
    })
