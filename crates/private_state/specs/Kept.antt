-- What the fields of a private state mean, and what they keep.
use Rattle.std.specs.Prelude.{◌≡◌, length}
use Rattle.state_laws.specs.Kernel.{Kernel, Standing}
use Rattle.private_state.specs.declared.state.PrivateState.TheInside.{Inside}

abbrev pub kernel_of : Inside → Kernel
kernel_of p = record {
  items = p.items.items;
  entries = p.entries.items;
  definitions = p.definitions.items;
  maps = p.maps;
  store = p.store;
  stack = p.removed.entries;
  okay = p.okay;
  stack_mark = p.stack_mark;
}

-- the state stands, and what became of each variable is kept
pub record IsKept (p : Inside) : Type 0 where
  pub standing : Standing (kernel_of p)
  pub vars : p.removed.vars ≡ length p.definitions.items
