-- What contracts see of a controller's fields.
use Rattle.controller_core.specs.ControllerView.{ControllerView}
use Rattle.controller_core.specs.declared.controller.Controller.TheInside.{Inside}

abbrev pub view_of : Inside → ControllerView
view_of c = record {
  config = c.config;
  state = record {
    epoch = c.epoch;
    slots = c.admission.slots;
    next_tag = c.admission.next_tag;
    hand = c.admission.hand;
    wants = c.wants;
    eviction = c.eviction;
    job = c.job;
    last = c.last;
    last_epoch = c.last_epoch;
    round = c.round;
    next_job = c.next_job;
    next_id = c.next_id;
    next_round = c.next_round;
  };
}
