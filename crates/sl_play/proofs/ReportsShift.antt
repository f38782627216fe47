-- What is left behind a line, with its report behind that of the lines before it.
use Rattle.sl_play.specs.RunEndings.{Finishes, LeadsBack}
use Rattle.sl_report.specs.Languages.{Language}
use Rattle.sl_report.specs.Reports.{Counts, run_counts, run_lines}
use Rattle.sl_report.specs.Schedules.{Ending, EventLine, last_lines}
use Rattle.sl_run.specs.Runs.{Happening}
use Rattle.sl_run.specs.Worlds.{World}
use Rattle.sl_text.specs.Forms.{as_bytes}
use Rattle.std.proofs.Common.{List, [], ap, refl, sym, ℕ, ◌++◌, ◌∙◌, ◌≡◌}
use Rattle.std.proofs.lemmas.List.{append-nil, append_assoc}

-- The report of what is left.
abbrev report_left : Language → World → Counts → List Happening → Ending → List ℕ
report_left lang v n xs end = as_bytes (run_lines v xs ++ last_lines lang (run_counts v n xs) end)

pub shift_finish : (P : World → Type 0) (lang : Language) (w : World) (k : Counts) (ls : List EventLine) (text : List ℕ) (end : Ending) → Finishes P lang w k ls [] text end → (written : List ℕ)
    → Finishes P lang w k ls written (written ++ text) end
shift_finish P lang w k ls text end f written = record { xs = f.xs; follows = f.follows; is_run = f.is_run; fronts = f.fronts; text = ap (λ b. written ++ b) f.text }

-- Texts one behind the other, told otherwise.
regroup : (written lines left more : List ℕ) → written ++ ((lines ++ left) ++ more) ≡ ((written ++ lines) ++ left) ++ more
regroup written lines left more = simp append_assoc

pub shift : (P : World → Type 0) (lang : Language) (w v : World) (k n : Counts) (ls left : List EventLine) (lines : List ℕ) → LeadsBack P lang w k ls [] v n left lines → (written : List ℕ)
    → LeadsBack P lang w k ls written v n left (written ++ lines)
shift P lang w v k n ls left lines leads written =
    record {
      finishes = λ total end f.
          let rest : List ℕ = report_left lang v n f.xs end in
          let g = leads.finishes (lines ++ rest) end (record { xs = f.xs; follows = f.follows; is_run = f.is_run; fronts = f.fronts; text = refl }) in
          record { xs = g.xs; follows = g.follows; is_run = g.is_run; fronts = g.fronts; text = f.text ∙ append_assoc written lines rest ∙ ap (λ b. written ++ b) g.text };
      breaks = λ total f.
          let rest : List ℕ = as_bytes (run_lines v f.xs) in
          let g = leads.breaks (lines ++ rest) (record { xs = f.xs; follows = f.follows; is_run = f.is_run; fronts = f.fronts; text = ([], sym (append-nil (lines ++ rest))) }) in
          record {
            xs = g.xs;
            follows = g.follows;
            is_run = g.is_run;
            fronts = g.fronts;
            text = (f.text.0 ++ g.text.0, ap (λ b. written ++ b) g.text.1 ∙ regroup written lines rest g.text.0 ∙ ap (λ b. b ++ g.text.0) f.text.1 ∙ append_assoc total f.text.0 g.text.0);
          };
    }
