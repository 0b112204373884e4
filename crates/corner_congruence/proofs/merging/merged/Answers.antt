use Rattle.std.proofs.Common.{rules}
use Rattle.corner_congruence.proofs.merging.merged.Goals as goal

-- src/merging.rt:141:1
pub returns : goal.returns
returns c = record {
  state_classes = c.in_ok-classes.classes.items;
  corner_classes = c.in_ok-corner_classes.corner_classes.items;
  partition = search rules;
  corner_partition = search rules;
  states = search rules;
  corners = search rules;
  roots = search rules;
  few_states = search rules;
  few_corners = search rules;
}
