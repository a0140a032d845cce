pub mod AdmissionView
