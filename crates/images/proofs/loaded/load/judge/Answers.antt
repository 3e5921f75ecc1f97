use Rattle.std.proofs.Common.{ap, ◌∙◌}
use Rattle.images.specs.Image.{number_of_classes, number_of_states, steps_end}
use Rattle.images.proofs.Sections.{measured}
use Rattle.images.proofs.loaded.load.judge.Goals as goal

pub returns : goal.returns
returns c =
    let classes = c.in_ok-classes.ensures in
    let states = c.in_ok-states.ensures in
    let steps = c.in_ok-read_steps.ensures in
    let start = ap (λ r. r.image) c.new-reader.ensures in
    let read = classes.1 ∙ start in
    let labelled = c.in_ok-read_labels.ensures.1 ∙ states.1 ∙ read in
    measured _ _ _ _ _ (steps.1 ∙ labelled)
    (record {
      states = states.0.0 ∙ ap number_of_states read;
      classes = classes.0.0 ∙ ap number_of_classes start;
      few_states = states.0.1;
      few_classes = classes.0.1;
    })
    (ap steps_end labelled) steps.2 c.in_ok-read_end.ensures.0
