use Rattle.obj_validity.proofs.validity.object_fault.Goals as goal

pub place_fault-requires : goal.place_fault-requires
place_fault-requires c = rw c.props_of-props.ensures (c.requires.few c.args.obj.now.class)
