use Rattle.std.proofs.Common.{inl, inr, false, refl}
use Rattle.gj_words.specs.declared.requests.Command.TheVariants as command
use Rattle.gj_top.specs.Fill.{IsFillText}
use Rattle.gj_top.specs.Group.{IsTrueGroupText}
use Rattle.gj_top.specs.Show.{IsShownText}
use Rattle.gj_top.specs.Transform.{IsTimesText, IsMirrorText, IsRestrictionText}
use Rattle.gj_commands.proofs.ByCommand.{written, input_of, minimal_told, minimal_of_input, minimal_shown, minimal_claimed}
use Rattle.gj_commands.proofs.ByCommand.{extreme_told, extreme_of_input, extreme_shown, extreme_claimed}
use Rattle.gj_commands.proofs.ByCheck.{check_minimal, check_not_minimal, check_extreme, check_not_extreme, check_cut, check_claimed}
use Rattle.gj_commands.proofs.ByCheck.{check_printed, check_steps}
use Rattle.gj_commands.proofs.ByCommand.{derived_told, derived_of_input}
use Rattle.gj_commands.proofs.ByCommand.{cut_told, mixed_told, problem_told, problem_of_printed, cut_of_input, mixed_of_input, of_input, of_text, faces_told, demo_told}
use Rattle.gj_commands.proofs.ByCommand.{written_with, minimal_json, extreme_json, show_json}
use Rattle.gj_commands.proofs.ByCommand.{written_jumping, written_jumping_with, jumps_told, jumps_of_input, jumps_shown, jumps_claimed}
use Rattle.gj_commands.proofs.ByCommand.{jumps_json, jumps_faces_told}
use Rattle.gj_commands.proofs.run_command.Goals as goal

pub returns-clause-minimal : goal.returns-clause-minimal
returns-clause-minimal g c =
    written command.Minimal _ tt minimal_told _ _ _ _ _ c.run.ensures.is_run.reply

pub returns-clause-minimal_of : goal.returns-clause-minimal_of
returns-clause-minimal_of g c =
    written command.Minimal _ tt
    (λ input text reply f given. minimal_of_input input text reply f (input_of f input given))
    _ _ _ _ _ c.run.ensures.is_run.reply

pub returns-clause-minimal_input : goal.returns-clause-minimal_input
returns-clause-minimal_input g c =
    written command.Minimal _ tt minimal_of_input _ _ _ _ _ c.run.ensures.is_run.reply

pub returns-clause-minimal_json : goal.returns-clause-minimal_json
returns-clause-minimal_json g c =
    written_with command.Minimal _ tt refl minimal_json _ _ _ _ _ c.run.ensures.is_run.reply

pub returns-clause-minimal_shown : goal.returns-clause-minimal_shown
returns-clause-minimal_shown g c =
    written command.Minimal _ tt minimal_shown _ _ _ _ _ c.run.ensures.is_run.reply

pub returns-clause-minimal_claim : goal.returns-clause-minimal_claim
returns-clause-minimal_claim g c =
    written command.Minimal _ tt minimal_claimed _ _ _ _ _ c.run.ensures.is_run.reply

pub returns-clause-extreme : goal.returns-clause-extreme
returns-clause-extreme g c =
    written command.Extreme _ tt extreme_told _ _ _ _ _ c.run.ensures.is_run.reply

pub returns-clause-extreme_of : goal.returns-clause-extreme_of
returns-clause-extreme_of g c =
    written command.Extreme _ tt
    (λ input text reply f given. extreme_of_input input text reply f (input_of f input given))
    _ _ _ _ _ c.run.ensures.is_run.reply

pub returns-clause-extreme_input : goal.returns-clause-extreme_input
returns-clause-extreme_input g c =
    written command.Extreme _ tt extreme_of_input _ _ _ _ _ c.run.ensures.is_run.reply

pub returns-clause-extreme_json : goal.returns-clause-extreme_json
returns-clause-extreme_json g c =
    written_with command.Extreme _ tt refl extreme_json _ _ _ _ _ c.run.ensures.is_run.reply

pub returns-clause-extreme_shown : goal.returns-clause-extreme_shown
returns-clause-extreme_shown g c =
    written command.Extreme _ tt extreme_shown _ _ _ _ _ c.run.ensures.is_run.reply

pub returns-clause-extreme_claim : goal.returns-clause-extreme_claim
returns-clause-extreme_claim g c =
    written command.Extreme _ tt extreme_claimed _ _ _ _ _ c.run.ensures.is_run.reply

pub returns-clause-extreme_jumps : goal.returns-clause-extreme_jumps
returns-clause-extreme_jumps g c =
    written_jumping command.Extreme _ tt refl jumps_told _ _ _ _ _ c.run.ensures.is_run.reply

pub returns-clause-extreme_jumps_of : goal.returns-clause-extreme_jumps_of
returns-clause-extreme_jumps_of g c =
    written_jumping command.Extreme _ tt refl
    (λ input text reply f given. jumps_of_input input text reply f (input_of f input given))
    _ _ _ _ _ c.run.ensures.is_run.reply

pub returns-clause-extreme_jumps_input : goal.returns-clause-extreme_jumps_input
returns-clause-extreme_jumps_input g c =
    written_jumping command.Extreme _ tt refl jumps_of_input _ _ _ _ _ c.run.ensures.is_run.reply

pub returns-clause-extreme_jumps_json : goal.returns-clause-extreme_jumps_json
returns-clause-extreme_jumps_json g c =
    written_jumping_with command.Extreme _ tt refl refl jumps_json _ _ _ _ _
    c.run.ensures.is_run.reply

pub returns-clause-extreme_jumps_shown : goal.returns-clause-extreme_jumps_shown
returns-clause-extreme_jumps_shown g c =
    written_jumping command.Extreme _ tt refl jumps_shown _ _ _ _ _ c.run.ensures.is_run.reply

pub returns-clause-extreme_jumps_claim : goal.returns-clause-extreme_jumps_claim
returns-clause-extreme_jumps_claim g c =
    written_jumping command.Extreme _ tt refl jumps_claimed _ _ _ _ _ c.run.ensures.is_run.reply

pub returns-clause-check_minimal : goal.returns-clause-check_minimal
returns-clause-check_minimal g c =
    written command.Check _ tt check_minimal _ _ _ _ _ c.run.ensures.is_run.reply

pub returns-clause-check_not_minimal : goal.returns-clause-check_not_minimal
returns-clause-check_not_minimal g c =
    written command.Check _ tt check_not_minimal _ _ _ _ _ c.run.ensures.is_run.reply

pub returns-clause-check_extreme : goal.returns-clause-check_extreme
returns-clause-check_extreme g c =
    written command.Check _ tt check_extreme _ _ _ _ _ c.run.ensures.is_run.reply

pub returns-clause-check_not_extreme : goal.returns-clause-check_not_extreme
returns-clause-check_not_extreme g c =
    written command.Check _ tt check_not_extreme _ _ _ _ _ c.run.ensures.is_run.reply

pub returns-clause-check_cut : goal.returns-clause-check_cut
returns-clause-check_cut g c =
    written command.Check _ tt check_cut _ _ _ _ _ c.run.ensures.is_run.reply

pub returns-clause-check_claim : goal.returns-clause-check_claim
returns-clause-check_claim g c =
    written command.Check _ tt check_claimed _ _ _ _ _ c.run.ensures.is_run.reply

pub returns-clause-check_derivation : goal.returns-clause-check_derivation
returns-clause-check_derivation g c =
    written command.Check _ tt check_printed _ _ _ _ _ c.run.ensures.is_run.reply

pub returns-clause-check_derivation_input : goal.returns-clause-check_derivation_input
returns-clause-check_derivation_input g c =
    written command.Check _ tt check_steps _ _ _ _ _ c.run.ensures.is_run.reply

pub returns-clause-derive : goal.returns-clause-derive
returns-clause-derive g c =
    written command.Derive _ tt derived_told _ _ _ _ _ c.run.ensures.is_run.reply

pub returns-clause-derive_input : goal.returns-clause-derive_input
returns-clause-derive_input g c =
    written command.Derive _ tt derived_of_input _ _ _ _ _ c.run.ensures.is_run.reply

pub returns-clause-cut : goal.returns-clause-cut
returns-clause-cut g c = written command.Cut _ tt cut_told _ _ _ _ _ c.run.ensures.is_run.reply

pub returns-clause-mixed : goal.returns-clause-mixed
returns-clause-mixed g c =
    written command.Mixed _ tt mixed_told _ _ _ _ _ c.run.ensures.is_run.reply

pub returns-clause-cut_input : goal.returns-clause-cut_input
returns-clause-cut_input g c =
    written command.Cut _ tt cut_of_input _ _ _ _ _ c.run.ensures.is_run.reply

pub returns-clause-mixed_input : goal.returns-clause-mixed_input
returns-clause-mixed_input g c =
    written command.Mixed _ tt mixed_of_input _ _ _ _ _ c.run.ensures.is_run.reply

pub returns-clause-problem : goal.returns-clause-problem
returns-clause-problem g c =
    written command.Problem _ tt problem_of_printed _ _ _ _ _ c.run.ensures.is_run.reply

pub returns-clause-problem_input : goal.returns-clause-problem_input
returns-clause-problem_input g c =
    written command.Problem _ tt problem_told _ _ _ _ _ c.run.ensures.is_run.reply

pub returns-clause-group : goal.returns-clause-group
returns-clause-group g c =
    written command.Group _ tt (of_text (command.Group) (IsTrueGroupText) refl) _ _ _ _ _
    c.run.ensures.is_run.reply

pub returns-clause-faces : goal.returns-clause-faces
returns-clause-faces g c =
    written command.Faces _ tt faces_told _ _ _ _ _ c.run.ensures.is_run.reply

pub returns-clause-faces_jumps : goal.returns-clause-faces_jumps
returns-clause-faces_jumps g c =
    written_jumping command.Faces _ tt refl jumps_faces_told _ _ _ _ _ c.run.ensures.is_run.reply

pub returns-clause-fill : goal.returns-clause-fill
returns-clause-fill g c =
    written command.Fill _ tt (of_text (command.Fill) (IsFillText) refl) _ _ _ _ _
    c.run.ensures.is_run.reply

pub returns-clause-times : goal.returns-clause-times
returns-clause-times g c =
    λ n j low high below. written (command.Times n j) _ (low, high, below)
    (of_text (command.Times n j) (IsTimesText n j) refl)
    _ _ _ _ _ c.run.ensures.is_run.reply

pub returns-clause-mirror : goal.returns-clause-mirror
returns-clause-mirror g c =
    written command.Mirror _ tt (of_text (command.Mirror) (IsMirrorText) refl) _ _ _ _ _
    c.run.ensures.is_run.reply

pub returns-clause-restrict : goal.returns-clause-restrict
returns-clause-restrict g c =
    λ d low high. written (command.Restrict d) _ (low, high)
    (of_text (command.Restrict d) (IsRestrictionText d) refl) _ _ _ _ _
    c.run.ensures.is_run.reply

pub returns-clause-show_points : goal.returns-clause-show_points
returns-clause-show_points g c =
    written command.Show _ tt
    (λ input text reply f rest lines nothing. of_input command.Show
    (IsShownText false) refl f input text (rest, inl lines, nothing) reply)
    _ _ _ _ _ c.run.ensures.is_run.reply

pub returns-clause-show_family : goal.returns-clause-show_family
returns-clause-show_family g c =
    written command.Show _ tt
    (λ input text reply f rest lines nothing. of_input command.Show
    (IsShownText false) refl f input text (rest, inr (inl lines), nothing) reply)
    _ _ _ _ _ c.run.ensures.is_run.reply

pub returns-clause-show_breaks : goal.returns-clause-show_breaks
returns-clause-show_breaks g c =
    written command.Show _ tt
    (λ input text reply f rest lines nothing. of_input command.Show
    (IsShownText false) refl f input text (rest, inr (inr lines), nothing) reply)
    _ _ _ _ _ c.run.ensures.is_run.reply

pub returns-clause-show_json : goal.returns-clause-show_json
returns-clause-show_json g c =
    written_with command.Show _ tt refl show_json _ _ _ _ _ c.run.ensures.is_run.reply

pub returns-clause-demo : goal.returns-clause-demo
returns-clause-demo g c = λ n low high. written (command.Demo n) _ (low, high)
    (demo_told n) _ _ _ _ _ c.run.ensures.is_run.reply
